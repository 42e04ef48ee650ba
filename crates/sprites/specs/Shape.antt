-- How large sprites are, and which of them cover a line.
use Rattle.std.specs.Prelude.{ℕ, ◌+◌, ◌-◌, ◌*◌, ◌/◌, ◌%◌, Bool, true, false, cond, List, nat_lt}
use Rattle.chip.specs.Modes.{large_sprites, magnified}

-- How many columns wide, and how many lines high, a pattern bit is shown.
abbrev pub bit_width : List ℕ → ℕ
bit_width r = cond (magnified r) 2 1

-- The height and width of a sprite: 8, or 16 with size; doubled by magnify.
abbrev pub side : List ℕ → ℕ
side r = cond (large_sprites r) 16 8 * bit_width r

-- A count of lines or columns in pattern rows or bits: halved when magnified.
abbrev pub scaled : Bool → ℕ → ℕ
scaled true d = d / 2
scaled false d = d

-- The row offset: (l - y - 1) modulo 256.
abbrev pub row_offset : ℕ → ℕ → ℕ
row_offset l y = (l + 255 - y) % 256

-- A sprite covers the line when the offset is below its height.
abbrev pub covers : List ℕ → ℕ → ℕ → Bool
covers r l y = nat_lt (row_offset l y) (side r)
