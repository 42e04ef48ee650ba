-- A sprite's row of bits as a number, from a column on that is not left of it.
use Rattle.std.proofs.Common.{◌≡◌, ℕ, suc, ◌+◌, ◌-◌, ◌*◌, ◌/◌, ◌%◌, ◌^◌, ◌<◌, ◌≤◌, Bool, true, false, cond, not, ◌&&◌, eqb, ltb, List, sym, refl, ap, ◌∙◌, ap₂, arith, le-ltb, lt-ltb, le-leb}
use native.Mathlib.Decide.{dec_lt}
use lib.Bits.{bit_and, and_le_l}
use Rattle.chip.specs.Bits.{bit}
use Rattle.chip.specs.Modes.{large_sprites, magnified}
use Rattle.chip.specs.Ranges.{any_below}
use Rattle.chip.proofs.Laws.Bits.{bit-and, bit_kept, bit_shifted, bit_below, bit-zero, any-bit}
use Rattle.chip.proofs.Laws.Ranges.{any_same}
use Rattle.sprites.specs.Shape.{bit_width, scaled}
use Rattle.sprites.specs.Pixels.{hits}
use Rattle.sprites.specs.Rows.{RowFrom}
use Rattle.sprites.specs.Held.{AsRead}
use Rattle.sprites.specs.declared.sprite.Sprite.{Sprite}
use Rattle.sprites.proofs.Laws.Columns.{halves}

-- without size the bits of the right half are clear
pub shown-bit : (g : Bool) (b i : ℕ) → (g ≡ false → b % 256 ≡ 0) → i < 16 → bit (15 - i) b ≡ (ltb i (cond g 16 8) && bit (15 - i) b)
shown-bit true b i clear h = rw (lt-ltb i 16 h)
shown-bit false b i clear h = by (dec_lt i 8)
  where
    by : Dec (i < 8) → bit (15 - i) b ≡ (ltb i 8 && bit (15 - i) b)
    by (yes left) = rw (lt-ltb i 8 left)
    by (no right) =
        let whole : b ≡ b / 256 * 256 = omega (arith, clear refl) in
        let place : 8 ≡ suc (7 - (15 - i)) + (15 - i) = omega arith in
        let past : 8 ≤ i = omega arith in
        ap (bit (15 - i)) whole ∙ ap (λ (n : ℕ). bit (15 - i) (b / 256 * 2 ^ n)) place ∙ bit_below (7 - (15 - i)) (15 - i) (b / 256) ∙ sym (rw (le-ltb i 8 past))

-- the k-th column of a row from c on, for a sprite that begins at f and is w bits wide
module _ (f c k : ℕ) (low : f ≤ c) where
  column-bit : (m : Bool) → scaled m (c + k * cond m 2 1 - f) ≡ scaled m (c - f) + k
  column-bit true = omega arith
  column-bit false = omega arith

  column-inside : (m : Bool) (w : ℕ) → scaled m (c - f) + k < w → c + k * cond m 2 1 < f + w * cond m 2 1
  column-inside true w h = omega arith
  column-inside false w h = omega arith

  column-beyond : (m : Bool) (w : ℕ) → w ≤ scaled m (c - f) + k → f + w * cond m 2 1 ≤ c + k * cond m 2 1
  column-beyond true w h = omega arith
  column-beyond false w h = omega arith

  column-within : (m : Bool) (w : ℕ) → ltb (c + k * cond m 2 1) (f + w * cond m 2 1) ≡ ltb (scaled m (c - f) + k) w
  column-within m w = by (dec_lt (scaled m (c - f) + k) w)
    where
      by : Dec (scaled m (c - f) + k < w) → ltb (c + k * cond m 2 1) (f + w * cond m 2 1) ≡ ltb (scaled m (c - f) + k) w
      by (yes h) = lt-ltb _ _ (column-inside m w h) ∙ sym (lt-ltb _ _ h)
      by (no h) =
          let out : w ≤ scaled m (c - f) + k = omega arith in
          le-ltb _ _ (column-beyond m w out) ∙ sym (le-ltb _ _ out)

module _ (r : List ℕ) (s : Sprite) (read : AsRead r s) (c : ℕ) (low : s.first ≤ c) where
  -- how far the row is shifted
  abbrev shift : ℕ
  shift = scaled (magnified r) (c - s.first)

  hits_at : (k : ℕ) → hits r s (c + k * bit_width r) ≡ (ltb (shift + k) (cond (large_sprites r) 16 8) && bit (15 - (shift + k)) s.bits)
  unfolding hits
  hits_at k =
      let right : s.first ≤ c + k * bit_width r = omega arith in
      rw (le-leb _ _ right, column-within s.first c k low (magnified r) (cond (large_sprites r) 16 8), column-bit s.first c k low (magnified r))

  past : (k : ℕ) → 16 ≤ shift + k → hits r s (c + k * bit_width r) ≡ false
  past k h =
      let out : cond (large_sprites r) 16 8 ≤ shift + k = omega (arith, halves (large_sprites r)) in
      hits_at k ∙ rw (le-ltb _ _ out)

  pub row-shifted : shift < 16 → RowFrom r s c (s.bits * 2 ^ shift % 2 ^ 16)
  row-shifted small k h = cut ∙ by (dec_lt (shift + k) 16)
    where
      cut : bit (15 - k) (s.bits * 2 ^ shift % 2 ^ 16) ≡ bit (15 - k) (s.bits * 2 ^ shift)
      cut =
          let e : 16 ≡ k + 1 + (15 - k) = omega arith in
          ap (λ (n : ℕ). bit (15 - k) (s.bits * 2 ^ shift % 2 ^ n)) e ∙ bit_kept k (15 - k) (s.bits * 2 ^ shift)

      by : Dec (shift + k < 16) → bit (15 - k) (s.bits * 2 ^ shift) ≡ hits r s (c + k * bit_width r)
      by (yes i) =
          let place : 15 - k ≡ shift + (15 - (shift + k)) = omega arith in
          ap (λ (j : ℕ). bit j (s.bits * 2 ^ shift)) place ∙ bit_shifted shift (15 - (shift + k)) s.bits ∙ shown-bit (large_sprites r) s.bits (shift + k) read.left_half i ∙ sym (hits_at k)
      by (no o) =
          let place : shift ≡ suc (shift - (16 - k)) + (15 - k) = omega arith in
          ap (λ (n : ℕ). bit (15 - k) (s.bits * 2 ^ n)) place ∙ bit_below (shift - (16 - k)) (15 - k) s.bits ∙ sym (past k (omega arith))

  pub row-past : 16 ≤ shift → RowFrom r s c 0
  row-past far k h = bit-zero (15 - k) ∙ sym (past k (omega arith))

-- two rows from the same column on
pub rows-meet : (r : List ℕ) (a b : Sprite) (c v w : ℕ) → v < 2 ^ 16 → RowFrom r a c v → RowFrom r b c w → not (eqb (bit_and v w) 0) ≡ any_below 16 (λ k. hits r a (c + k * bit_width r) && hits r b (c + k * bit_width r))
rows-meet r a b c v w small one other =
    let low : bit_and v w < 2 ^ 16 = omega (arith, and_le_l v w) in
    sym (any-bit 16 (bit_and v w) low) ∙ any_same 16 _ _ (λ k h. bit-and (15 - k) v w ∙ ap₂ ◌&&◌ (one k h) (other k h))

pub ruleset rows = (row-shifted, row-past)
