-- A sprite put into the sets of the lines that it covers, from its first line on.
use Rattle.std.proofs.Common.{◌≡◌, ℕ, ◌+◌, ◌<◌, cond, ltb, List, length, get_or, sym, ◌∙◌, arith, le-ltb, lt-ltb}
use native.Mathlib.Decide.{dec_lt}
use lib.Bits.{bit_or}
use Rattle.sprites.specs.Shape.{row_offset}

-- The sets after the first d lines of a sprite at y, where `one` is the sprite's bit.
pub record Added (old sets : List ℕ) (y one d : ℕ) : Type 0 where
  pub long : length sets ≡ length old
  pub line : (m : ℕ) → m < 192 → get_or sets m 0 ≡ cond (ltb (row_offset m y) d) (bit_or (get_or old m 0) one) (get_or old m 0)

-- only at d does a bound of one more tell
pub one_more : (x d : ℕ) → (x ≡ d → ⊥) → ltb x d ≡ ltb x (d + 1)
one_more x d h = by (dec_lt x d)
  where
    by : Dec (x < d) → ltb x d ≡ ltb x (d + 1)
    by (yes below) = lt-ltb x d below ∙ sym (lt-ltb x (d + 1) (omega arith))
    by (no above) = le-ltb x d (omega arith) ∙ sym (le-ltb x (d + 1) (omega arith))
