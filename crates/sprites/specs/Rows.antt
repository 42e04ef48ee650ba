-- A sprite's row of bits as code compares it with another's: a number of 16 bits.
use Rattle.std.specs.Prelude.{◌≡◌, ℕ, ◌+◌, ◌-◌, ◌*◌, ◌<◌, List}
use Rattle.chip.specs.Bits.{bit}
use Rattle.sprites.specs.Shape.{bit_width}
use Rattle.sprites.specs.Pixels.{hits}
use Rattle.sprites.specs.declared.sprite.Sprite.{Sprite}

-- The row from column c on, a bit for every column, or when magnified for every second one: bit 15 - k tells whether the sprite
-- has a set bit at the k-th of these columns.
abbrev pub RowFrom : List ℕ → Sprite → ℕ → ℕ → Type 0
RowFrom r s c row = (k : ℕ) → k < 16 → bit (15 - k) row ≡ hits r s (c + k * bit_width r)
