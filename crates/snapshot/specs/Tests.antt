-- What stands where in a snapshot, found from its end, and the tests of it.
use Rattle.std.specs.Prelude.{ℕ, ◌+◌, ◌-◌, Bool, true, ◌&&◌, List, length, take, drop, ◌==◌, slice_index}
use Rattle.chip.specs.TwoBytes.{low_first_at}
use Rattle.chip.specs.State.{vram_size}
use Rattle.chip.specs.Layout.{decoded}
use Rattle.chip.specs.Refusals.{Test, state_test}
use Rattle.chip.specs.declared.state.Chip.{Chip}
use Rattle.chip.specs.declared.refusal.Refusal.TheVariants.{SnapshotLength, Trailer, Checksum}
use Rattle.snapshot.specs.Format.{snapshot_size, trailer_size, to_block, to_vram, checksum}

-- Where the trailer starts, and where its sum does.
abbrev pub trailer_at : List ℕ → ℕ
trailer_at s = length s - trailer_size

abbrev pub sum_at : List ℕ → ℕ
sum_at s = trailer_at s + 6

-- The 14 bytes of the state, and the bytes of VRAM, each its distance before the trailer.
unfoldable pub state_bytes : List ℕ → List ℕ
state_bytes s = take 14 (drop (trailer_at s - to_block) s)

unfoldable pub vram_bytes : List ℕ → List ℕ
vram_bytes s = take vram_size (drop (trailer_at s - to_vram) s)

-- The state that a snapshot holds. The redraw mark and the count of lost first bytes are not stored: the mark is set, and the
-- count is 0.
abbrev pub held_state : List ℕ → Chip
held_state s = decoded (state_bytes s) true 0

-- Whether the signature and both distances are right.
unfoldable pub points_back : List ℕ → Bool
points_back s =
    (slice_index s (trailer_at s) == 0x56)
    && slice_index s (trailer_at s + 1) == 0x31
    && low_first_at s (trailer_at s + 2) == to_block
    && low_first_at s (trailer_at s + 4) == to_vram

-- Whether the sum of all bytes before it is the one that stands there.
unfoldable pub sum_right : List ℕ → Bool
sum_right s = low_first_at s (sum_at s) == checksum (take (sum_at s) s)

-- The tests of a snapshot: its length, its signature and distances, its sum, and that the state in it is well-formed.
abbrev pub size_test : List ℕ → Test
size_test s = record { refusal = SnapshotLength; passes = (length s == snapshot_size) }

abbrev pub trailer_test : List ℕ → Test
trailer_test s = record { refusal = Trailer; passes = points_back s }

abbrev pub sum_test : List ℕ → Test
sum_test s = record { refusal = Checksum; passes = sum_right s }

abbrev pub contents_test : List ℕ → Test
contents_test s = state_test (held_state s)
