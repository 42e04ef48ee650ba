-- A sprite's row of bits, a bit for every column that it has.
use Prim.Native.Nat.{ℕ, suc, ◌+◌, ◌-◌, ◌*◌, ◌/◌, ◌%◌, ◌^◌, ◌≤◌, ◌<◌}
use native.Mathlib.Decide.{dec_lt}
use native.Mathlib.Omega.{arith}
use mathlib.Core.Path.{◌≡◌, sym, ap, ◌∙◌}
use mathlib.Core.Bool.{Bool, true, false, cond, ◌&&◌}
use mathlib.Core.List.{List}
use borrow.Author.Tests.{le-leb, lt-ltb, le-ltb}
use lib.Dec.{ltb}
use lib.Pow.{high}
use Rattle.chip.specs.Bits.{bit}
use Rattle.chip.specs.Modes.{large_sprites, magnified}
use Rattle.chip.proofs.Laws.Bits.{bit_kept, bit_shifted, bit_below}
use Rattle.sprites.specs.Shape.{scaled}
use Rattle.sprites.specs.Pixels.{hits}
use Rattle.sprites.specs.Held.{AsRead}
use Rattle.sprites.specs.declared.sprite.Sprite.{Sprite}
use Rattle.sprites.proofs.Laws.Columns.{halves}
use Rattle.sprites.proofs.Laws.Rows.{shown-bit}
use Rattle.blit.specs.Wide.{WideRow}
use Rattle.blit.proofs.Laws.Shifted.{bit-upper}

-- a column is inside the sprite where its bit is
columns : (f k : ℕ) (m : Bool) (w : ℕ) → ltb (f + k) (f + w * cond m 2 1) ≡ ltb (scaled m k) w
columns f k m w = by (dec_lt (scaled m k) w)
  where
    inside : (m : Bool) → scaled m k < w → f + k < f + w * cond m 2 1
    inside true h = omega arith
    inside false h = omega arith

    beyond : (m : Bool) → w ≤ scaled m k → f + w * cond m 2 1 ≤ f + k
    beyond true h = omega arith
    beyond false h = omega arith

    by : Dec (scaled m k < w) → ltb (f + k) (f + w * cond m 2 1) ≡ ltb (scaled m k) w
    by (yes h) = lt-ltb _ _ (inside m h) ∙ sym (lt-ltb _ _ h)
    by (no h) =
        let out : w ≤ scaled m k = omega arith in
        le-ltb _ _ (beyond m out) ∙ sym (le-ltb _ _ out)

module _ (r : List ℕ) (s : Sprite) (read : AsRead r s) where
  -- column k of the sprite
  hits_at : (k : ℕ) → hits r s (s.first + k) ≡ (ltb (scaled (magnified r) k) (cond (large_sprites r) 16 8) && bit (15 - scaled (magnified r) k) s.bits)
  unfolding hits
  hits_at k =
      let right : s.first ≤ s.first + k = omega arith in
      let place : s.first + k - s.first ≡ k = omega arith in
      rw (le-leb _ _ right, columns s.first k (magnified r) (cond (large_sprites r) 16 8), place)

  -- a row that has the sprite's bits is its wide row
  pub wide : (row : ℕ) → ((k : ℕ) → k < 32 → bit (31 - k) row ≡ (ltb (scaled (magnified r) k) 16 && bit (15 - scaled (magnified r) k) s.bits)) → WideRow r s row
  wide row has k h = has k h ∙ by (dec_lt (scaled (magnified r) k) 16) ∙ sym (hits_at k)
    where
      by : Dec (scaled (magnified r) k < 16) → (ltb (scaled (magnified r) k) 16 && bit (15 - scaled (magnified r) k) s.bits) ≡ (ltb (scaled (magnified r) k) (cond (large_sprites r) 16 8) && bit (15 - scaled (magnified r) k) s.bits)
      by (yes i) = rw (lt-ltb (scaled (magnified r) k) 16 i) (shown-bit (large_sprites r) s.bits (scaled (magnified r) k) read.left_half i)
      by (no o) =
          let past : 16 ≤ scaled (magnified r) k = omega arith in
          let out : cond (large_sprites r) 16 8 ≤ scaled (magnified r) k = omega (arith, halves (large_sprites r)) in
          rw (le-ltb _ _ past, le-ltb _ _ out)

-- bits shown once
pub plain : (bits k : ℕ) → k < 32 → bit (31 - k) (bits * 65536) ≡ (ltb k 16 && bit (15 - k) bits)
plain bits k h = by (dec_lt k 16)
  where
    by : Dec (k < 16) → bit (31 - k) (bits * 65536) ≡ (ltb k 16 && bit (15 - k) bits)
    by (yes i) =
        let place : 31 - k ≡ 16 + (15 - k) = omega arith in
        ap (λ (j : ℕ). bit j (bits * 65536)) place ∙ bit_shifted 16 (15 - k) bits ∙ sym (rw (lt-ltb k 16 i))
    by (no o) =
        let place : 16 ≡ suc (15 - (31 - k)) + (31 - k) = omega arith in
        let past : 16 ≤ k = omega arith in
        ap (λ (n : ℕ). bit (31 - k) (bits * 2 ^ n)) place ∙ bit_below (15 - (31 - k)) (31 - k) bits ∙ sym (rw (le-ltb k 16 past))

-- each bit of a byte twice
abbrev pub Doubled : ℕ → ℕ → Type 0
Doubled byte d = (k : ℕ) → k < 16 → bit k d ≡ bit (k / 2) byte

-- bits shown twice, the left half's and the right half's
pub twice : (bits left right k : ℕ) → right < 65536 → Doubled (bits / 256) left → Doubled (bits % 256) right → k < 32 → bit (31 - k) (left * 65536 + right) ≡ (ltb (k / 2) 16 && bit (15 - k / 2) bits)
twice bits left right k small dl dr h =
    let inside : k / 2 < 16 = omega arith in
    by (dec_lt k 16) ∙ sym (rw (lt-ltb (k / 2) 16 inside))
  where
    by : Dec (k < 16) → bit (31 - k) (left * 65536 + right) ≡ bit (15 - k / 2) bits
    by (yes i) =
        let place : 31 - k ≡ 16 + (15 - k) = omega arith in
        let same : 8 + (15 - k) / 2 ≡ 15 - k / 2 = omega arith in
        ap (λ (j : ℕ). bit j (left * 65536 + right)) place
        ∙ sym (bit-upper 16 (15 - k) (left * 65536 + right))
        ∙ ap (bit (15 - k)) (high left 16 small)
        ∙ dl (15 - k) (omega arith)
        ∙ bit-upper 8 ((15 - k) / 2) bits
        ∙ ap (λ (j : ℕ). bit j bits) same
    by (no o) =
        let place : 16 ≡ (k - 16) + 1 + (31 - k) = omega arith in
        let eight : 8 ≡ (7 - (31 - k) / 2) + 1 + (31 - k) / 2 = omega arith in
        let low : right ≡ (left * 65536 + right) % 2 ^ 16 = omega arith in
        let same : (31 - k) / 2 ≡ 15 - k / 2 = omega arith in
        sym (bit_kept (k - 16) (31 - k) (left * 65536 + right))
        ∙ ap (λ (n : ℕ). bit (31 - k) ((left * 65536 + right) % 2 ^ n)) (sym place)
        ∙ ap (bit (31 - k)) (sym low)
        ∙ dr (31 - k) (omega arith)
        ∙ ap (λ (n : ℕ). bit ((31 - k) / 2) (bits % 2 ^ n)) eight
        ∙ bit_kept (7 - (31 - k) / 2) ((31 - k) / 2) bits
        ∙ ap (λ (j : ℕ). bit j bits) same
