-- A sprite painted eight columns at a time.
use Prim.Native.Nat.{ℕ, zero, suc, ◌+◌, ◌-◌, ◌*◌, ◌/◌, ◌%◌, ◌^◌, ◌≤◌, ◌<◌}
use native.Mathlib.Decide.{dec_lt}
use native.Mathlib.Omega.{arith}
use mathlib.Core.Path.{◌≡◌, refl, sym, ap, ap₂, ◌∙◌}
use mathlib.Core.Bool.{Bool, true, false, cond}
use mathlib.Core.List.{List}
use lib.ListN.{length, get_or}
use Rattle.std.specs.Int.{to_be_bytes}
use mir.Syntax.{w32}
use Rattle.chip.specs.Bits.{bit}
use Rattle.chip.specs.Lists.{tabulate}
use Rattle.chip.specs.Modes.{large_sprites, magnified}
use Rattle.chip.proofs.Laws.Bits.{bit_kept}
use Rattle.chip.proofs.Laws.Lists.{tabulated}
use Rattle.planes.specs.Painted.{Painted}
use Rattle.sprites.specs.Pixels.{visible, hits}
use Rattle.sprites.specs.Shape.{side}
use Rattle.sprites.specs.declared.sprite.Sprite.{Sprite}
use Rattle.sprites.proofs.Laws.Columns.{hits-left, hits-right, side-small}
use Rattle.blit.specs.Wide.{WideRow}
use Rattle.blit.proofs.Laws.Shifted.{bit-upper}

-- sprites are eight columns wide, or a multiple of it
eights : (g m : Bool) → cond g 16 8 * cond m 2 1 % 8 ≡ 0
eights true true = omega arith
eights true false = omega arith
eights false true = omega arith
eights false false = omega arith

pub side-eights : (r : List ℕ) → side r % 8 ≡ 0
side-eights r = eights (large_sprites r) (magnified r)

-- the byte of the eight from column 8 * j on
pub byte-bit : (row j k : ℕ) → j < 4 → k < 8 → bit (7 - k) (row / 2 ^ (24 - 8 * j) % 256) ≡ bit (31 - (8 * j + k)) row
byte-bit row j k few h =
    let eight : 8 ≡ k + 1 + (7 - k) = omega arith in
    let place : 24 - 8 * j + (7 - k) ≡ 31 - (8 * j + k) = omega arith in
    ap (λ (n : ℕ). bit (7 - k) (row / 2 ^ (24 - 8 * j) % 2 ^ n)) eight
    ∙ bit_kept k (7 - k) (row / 2 ^ (24 - 8 * j))
    ∙ bit-upper (24 - 8 * j) (7 - k) row
    ∙ ap (λ (i : ℕ). bit i row) place

-- it is one of the row's bytes
pub pattern-at : (row j : ℕ) → j < 4 → get_or (to_be_bytes w32 row) j 0 ≡ row / 2 ^ (24 - 8 * j) % 256
pattern-at row zero h = refl
pattern-at row (suc zero) h = refl
pattern-at row (suc (suc zero)) h = refl
pattern-at row (suc (suc (suc zero))) h = omega arith
pattern-at row (suc (suc (suc (suc j)))) h = absurd (omega arith)

-- a run beside a run
pub painted-beside : {next new old : List ℕ} {at k w : ℕ} {f g : ℕ → ℕ} → Painted new old at k f → Painted next new (at + k) w g → ((i : ℕ) → i < w → g i ≡ f (k + i)) → Painted next old at (k + w) f
painted-beside {next} {new} {old} {at} {k} {w} {f} {g} p q same =
    record {
      long = q.long ∙ p.long;
      inside = λ j h. by j h (dec_lt j k);
      left = λ x h. q.left x (omega arith) ∙ p.left x h;
      right = λ x h. q.right x (omega arith) ∙ p.right x (omega arith);
    }
  where
    by : (j : ℕ) → j < k + w → Dec (j < k) → get_or next (at + j) 0 ≡ f j
    by j h (yes before) = q.left (at + j) (omega arith) ∙ p.inside j before
    by j h (no here) =
        let place : at + k + (j - k) ≡ at + j = omega arith in
        let sum : k + (j - k) ≡ j = omega arith in
        ap (λ (x : ℕ). get_or next x 0) (sym place) ∙ q.inside (j - k) (omega arith) ∙ same (j - k) (omega arith) ∙ ap f sum

-- what a row paints that begins at a place: a value where it has a set bit
abbrev pub row_over : ℕ → ℕ → List ℕ → ℕ → ℕ → ℕ
row_over row value old at k = cond (bit (31 - k) row) value (get_or old (at + k) 0)

-- the next eight
pub painted-eight : {next new old : List ℕ} {at j : ℕ} (row value pattern : ℕ) (bytes : ℕ → ℕ) → j < 4 → pattern ≡ row / 2 ^ (24 - 8 * j) % 256 → ((k : ℕ) → k < 8 → bytes k ≡ value) → Painted new old at (8 * j) (row_over row value old at) → Painted next new (at + 8 * j) 8 (λ k. cond (bit (7 - k) pattern) (bytes k) (get_or new (at + 8 * j + k) 0)) → Painted next old at (8 * j + 8) (row_over row value old at)
painted-eight {next} {new} {old} {at} {j} row value pattern bytes few e same p q = painted-beside p q step
  where
    step : (k : ℕ) → k < 8 → cond (bit (7 - k) pattern) (bytes k) (get_or new (at + 8 * j + k) 0) ≡ row_over row value old at (8 * j + k)
    step k h =
        let place : at + 8 * j + k ≡ at + (8 * j + k) = omega arith in
        let behind : get_or new (at + 8 * j + k) 0 ≡ get_or old (at + (8 * j + k)) 0 = p.right (at + 8 * j + k) (omega arith) ∙ ap (λ (x : ℕ). get_or old x 0) place in
        rw (e, byte-bit row j k few h, same k h, behind)

-- a row painted whole is its sprite painted
module _ (r : List ℕ) (s : Sprite) (row : ℕ) (wide : WideRow r s row) (on : 32 ≤ s.first) {new old : List ℕ} (long : length old ≡ 256) where
  pub painted-sprite : (value width : ℕ) → width ≡ side r → Painted new old (s.first - 32) width (row_over row value old (s.first - 32)) → new ≡ tabulate 256 (λ x. cond (hits r s (visible x)) value (get_or old x 0))
  painted-sprite value width e p = tabulated (p.long ∙ long) (λ x h. by x (dec_lt x (s.first - 32)) (dec_lt x (s.first - 32 + width)))
    where
      by : (x : ℕ) → Dec (x < s.first - 32) → Dec (x < s.first - 32 + width) → get_or new x 0 ≡ cond (hits r s (visible x)) value (get_or old x 0)
      by x (yes before) d = p.left x before ∙ sym (rw (hits-left r s (visible x) (omega arith)))
      by x (no after) (no beyond) = p.right x (omega arith) ∙ sym (rw (hits-right r s (visible x) (omega arith)))
      by x (no after) (yes within) =
          let k : ℕ = x - (s.first - 32) in
          let place : s.first - 32 + k ≡ x = omega arith in
          let column : s.first + k ≡ visible x = omega arith in
          ap (λ (y : ℕ). get_or new y 0) (sym place)
          ∙ p.inside k (omega arith)
          ∙ ap₂ (λ (b : Bool) (y : ℕ). cond b value (get_or old y 0)) (wide k (omega (arith, side-small r)) ∙ ap (hits r s) column) place
