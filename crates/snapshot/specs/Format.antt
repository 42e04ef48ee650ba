-- The snapshot: VRAM, the 14-byte state block, and an 8-byte trailer that points back.
use Rattle.std.specs.Prelude.{ℕ, ◌+◌, ◌%◌, List, [], ◌∷◌, ◌++◌}
use Rattle.chip.specs.TwoBytes.{low_first}
use Rattle.chip.specs.Layout.{encoded}
use Rattle.chip.specs.declared.state.Chip.{Chip}

-- How many bytes a snapshot has, and its trailer.
abbrev pub snapshot_size : ℕ
snapshot_size = 16406

abbrev pub trailer_size : ℕ
trailer_size = 8

-- How far it is back from the trailer's start to the state block, and to VRAM.
abbrev pub to_block : ℕ
to_block = 14

abbrev pub to_vram : ℕ
to_vram = 16398

-- The trailer up to the sum: its signature hex 56 31, then the two distances.
abbrev pub pointers : List ℕ
pointers = 0x56 ∷ 0x31 ∷ (low_first to_block ++ low_first to_vram)

abbrev pub sum : List ℕ → ℕ
sum [] = 0
sum (b ∷ l) = b + sum l

-- The sum of bytes, as the trailer has it.
abbrev pub checksum : List ℕ → ℕ
checksum l = sum l % 65536

-- All bytes before the sum: VRAM, the state, and the trailer's first six.
abbrev pub summed : Chip → List ℕ → List ℕ
summed c vram = vram ++ (encoded c ++ pointers)

abbrev pub trailer_of : Chip → List ℕ → List ℕ
trailer_of c vram = pointers ++ low_first (checksum (summed c vram))

-- The snapshot of a state and VRAM, whole.
unfoldable pub snapshot_of : Chip → List ℕ → List ℕ
snapshot_of c vram = vram ++ (encoded c ++ trailer_of c vram)
