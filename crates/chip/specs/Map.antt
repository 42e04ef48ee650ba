-- The map of written VRAM bytes: bit i mod 8, counted from the least significant, of byte i/8 is VRAM byte i's dirty bit.
use Rattle.std.specs.Prelude.{ℕ, ◌/◌, ◌%◌, Bool, List, get_or, set}
use Rattle.chip.specs.Bits.{bit, set_bit}

abbrev pub map_size : ℕ
map_size = 2048

-- The map with VRAM byte i's bit set.
abbrev pub set_dirty : List ℕ → ℕ → List ℕ
set_dirty map i = set map (i / 8) (set_bit (i % 8) (get_or map (i / 8) 0))

-- Whether VRAM byte i's bit is set.
abbrev pub is_dirty : List ℕ → ℕ → Bool
is_dirty map i = bit (i % 8) (get_or map (i / 8) 0)
