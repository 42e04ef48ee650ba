-- A table of words, as it is filled from the first.
use Rattle.std.specs.Prelude.{ℕ, ◌-◌, ◌/◌, ◌%◌, ◌<◌, ◌≡◌, cond, List, length, get_or}
use Rattle.chip.specs.Bits.{bit}
use Rattle.words.specs.Words.{byte_of}

-- Byte j of each of the first n words is as said. Of the others nothing is said: they are filled later.
pub record Filled (words : List ℕ) (shown : ℕ → ℕ → ℕ) (n : ℕ) : Type 0 where
  pub long : length words ≡ 256
  pub done : (b j : ℕ) → b < n → j < 8 → byte_of j (get_or words b 0) ≡ shown b j

-- Byte j of the word with four columns of each of a byte's two colours.
abbrev pub block_byte : List ℕ → ℕ → ℕ → ℕ
block_byte paints b j = cond (bit (7 - j) 0xF0) (byte_of j (get_or paints (b / 16) 0)) (byte_of j (get_or paints (b % 16) 0))
