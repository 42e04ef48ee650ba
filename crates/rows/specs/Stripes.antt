-- What a function leaves that paints eight columns of eight lines, which stand end to end in 2,048 bytes.
use Rattle.std.specs.Prelude.{ℕ, ◌+◌, ◌-◌, ◌*◌, ◌<◌, ◌≡◌, cond, List, length, get_or}
use Rattle.chip.specs.Bits.{bit}
use Rattle.words.specs.Words.{byte_of}

-- A pattern byte as a word: byte j is of one word where pixel j, from the left, is a 1 bit, and of the other where it is a 0 bit.
abbrev pub PatternWord : ℕ → ℕ → ℕ → ℕ → Type 0
PatternWord pattern set clear w = (j : ℕ) → j < 8 → byte_of j w ≡ cond (bit (7 - j) pattern) (byte_of j set) (byte_of j clear)

-- On each line eight pixels from column at on are f's, and the columns before are as they were. Of the columns behind nothing is
-- said: they are painted later.
pub record Striped (new old : List ℕ) (at : ℕ) (f : ℕ → ℕ → ℕ) : Type 0 where
  pub long : length new ≡ length old
  pub inside : (k j : ℕ) → k < 8 → j < 8 → get_or new (256 * k + (at + j)) 0 ≡ f k j
  pub left : (k x : ℕ) → k < 8 → x < at → get_or new (256 * k + x) 0 ≡ get_or old (256 * k + x) 0
