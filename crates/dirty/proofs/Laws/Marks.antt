-- The bytes of the map that stand for a table.
use Prim.Native.Nat.{ℕ, zero, suc, ◌+◌, ◌-◌, ◌*◌, ◌/◌, ◌%◌, ◌^◌, ◌<◌}
use native.Mathlib.Decide.{dec_lt}
use native.Mathlib.Omega.{arith}
use mathlib.Core.Path.{◌≡◌, refl, sym, ap, ap₂, ◌∙◌}
use mathlib.Core.Bool.{Bool, true, false, not, ◌&&◌}
use mathlib.Core.List.{List}
use mathlib.Core.Logic.{◌⊎◌, ⊎_elim}
use borrow.Author.Tests.{eqb-false, not-true}
use lib.Bits.{bit_and, bit_or}
use lib.ListN.{get_or}
use Rattle.chip.specs.Bits.{bit}
use Rattle.chip.specs.Map.{is_dirty}
use Rattle.chip.proofs.Laws.Bits.{bit_kept, bit_shifted}
use Rattle.chip.proofs.Laws.Ranges.{and_left, and_right, any-fails}
use Rattle.dirty.specs.Marks.{CleanPart}
use Rattle.dirty.specs.Plane.{part_dirty}
use Rattle.dirty.proofs.Laws.Joined.{first-lacks, second-lacks, apart_from}

module _ (map : List ℕ) (from : ℕ) where
  -- a part of the map of which nothing is dirty
  pub clean-part : (count : ℕ) {b : Bool} → b ≡ part_dirty map from count → not b ≡ true → CleanPart map (from * 8) (count * 8)
  clean-part count {b} e clear i h =
      let at : from * 8 + i ≡ 8 * from + i = omega arith in
      ap (is_dirty map) at ∙ any-fails (8 * count) (λ j. is_dirty map (8 * from + j)) (sym e ∙ not-true b clear) i (omega arith)

  -- attribute k of sprite n: a byte of the map stands for two sprites
  pub attribute-bit : (n k : ℕ) → k < 4 → is_dirty map (from * 8 + (4 * n + k)) ≡ bit (4 * (n % 2) + k) (get_or map (from + n / 2) 0)
  attribute-bit n k h =
      let place : (from * 8 + (4 * n + k)) % 8 ≡ 4 * (n % 2) + k = omega arith in
      let at : (from * 8 + (4 * n + k)) / 8 ≡ from + n / 2 = omega arith in
      ap₂ (λ (p j : ℕ). bit p (get_or map j 0)) place at

-- the bits of the Ys in such a byte
pub y-bits : (j : ℕ) → j < 2 → bit (4 * j + 0) 0x11 ≡ true
y-bits zero h = refl
y-bits (suc zero) h = refl
y-bits (suc (suc j)) h = absurd (omega arith)

-- and of the other attributes, the first sprite's and the second's
others : (k : ℕ) → 0 < k → k < 4 → (bit (0 + k) 0x0E && bit (4 + k) 0xE0) ≡ true
others zero some low = absurd (omega arith)
others (suc zero) some low = refl
others (suc (suc zero)) some low = refl
others (suc (suc (suc zero))) some low = refl
others (suc (suc (suc (suc k)))) some low = absurd (omega arith)

-- what two marks say of it
abbrev pub Pair : ℕ → ℕ → Type 0
Pair byte marks = (j k : ℕ) → j < 2 → 0 < k → k < 4 → bit j marks ≡ false → bit (4 * j + k) byte ≡ false

module _ (byte first second : ℕ) (f : (bit_and byte 0x0E ≡ 0) ⊎ (first ≡ 1)) (s : (bit_and byte 0xE0 ≡ 0) ⊎ (second ≡ 2)) where
  pub pair-clean : Pair byte (bit_or first second)
  pair-clean zero k h some low e =
      ⊎_elim (λ none. apart_from (4 * 0 + k) byte 0x0E none (and_left (bit (0 + k) 0x0E) _ (others k some low))) (λ is. absurd (eqb-false 0 0 (ap (bit 0) (sym is) ∙ first-lacks 0 first second e) refl)) f
  pair-clean (suc zero) k h some low e =
      ⊎_elim (λ none. apart_from (4 * 1 + k) byte 0xE0 none (and_right (bit (0 + k) 0x0E) _ (others k some low))) (λ is. absurd (eqb-false 0 0 (ap (bit 1) (sym is) ∙ second-lacks 1 first second e) refl)) s
  pair-clean (suc (suc j)) k h some low e = absurd (omega arith)

-- the marks of the sprites of the first i bytes
abbrev pub MarkedBelow : List ℕ → ℕ → ℕ → ℕ → Type 0
MarkedBelow map from i marks = (n k : ℕ) → n < 2 * i → 0 < k → k < 4 → bit n marks ≡ false → is_dirty map (from * 8 + (4 * n + k)) ≡ false

module _ (map : List ℕ) (from marks pair i : ℕ) (h : i < 16) (before : MarkedBelow map from i marks) (two : Pair (get_or map (from + i) 0) pair) where
  pub marks-more : MarkedBelow map from (i + 1) (bit_or marks (pair * 2 ^ (2 * i) % 2 ^ 32))
  marks-more n k low some few e = by (dec_lt n (2 * i))
    where
      by : Dec (n < 2 * i) → is_dirty map (from * 8 + (4 * n + k)) ≡ false
      by (yes below) = before n k below some few (first-lacks n marks (pair * 2 ^ (2 * i) % 2 ^ 32) e)
      by (no above) =
          let new : bit n (pair * 2 ^ (2 * i) % 2 ^ 32) ≡ false = second-lacks n marks (pair * 2 ^ (2 * i) % 2 ^ 32) e in
          let width : 32 ≡ 31 - n + 1 + n = omega arith in
          let place : n ≡ 2 * i + n % 2 = omega arith in
          let at : n / 2 ≡ i = omega arith in
          let lacks : bit (n % 2) pair ≡ false =
          sym (ap (λ (m : ℕ). bit n (pair * 2 ^ (2 * i) % 2 ^ m)) width ∙ bit_kept (31 - n) n (pair * 2 ^ (2 * i)) ∙ ap (λ (m : ℕ). bit m (pair * 2 ^ (2 * i))) place ∙ bit_shifted (2 * i) (n % 2) pair) ∙ new in
          attribute-bit map from n k few ∙ ap (λ (m : ℕ). bit (4 * (n % 2) + k) (get_or map (from + m) 0)) at ∙ two (n % 2) k (omega arith) some few lacks
