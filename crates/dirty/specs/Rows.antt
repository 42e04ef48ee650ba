-- Eight lines' answers as the bits of one byte.
use Rattle.std.specs.Prelude.{ℕ, ◌+◌, ◌*◌, ◌<◌, ◌≡◌, Bool, List, length, get_or}
use Rattle.chip.specs.Bits.{bit}

-- A byte for each of the 24 rows of names: bit k of a row's byte is the answer for line 8 * row + k.
pub record RowBits (rows : List ℕ) (is : ℕ → Bool) : Type 0 where
  pub long : length rows ≡ 24
  pub line : (row k : ℕ) → row < 24 → k < 8 → bit k (get_or rows row 0) ≡ is (8 * row + k)
