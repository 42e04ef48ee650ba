-- What came in on standard input.
use Rattle.std.specs.Prelude.{ℕ, ◌+◌, ◌≤◌, ◌≡◌, List, length, take}
use Rattle.snapshot.specs.Format.{snapshot_size}

-- One byte more than a snapshot has, so that a longer file is seen: it fills the buffer.
abbrev pub buffer_size : ℕ
buffer_size = snapshot_size + 1

-- The same for a snapshot with a log behind it, which has 40,004 bytes at most.
abbrev pub long_buffer_size : ℕ
long_buffer_size = snapshot_size + 40004 + 1

-- The file that came in: so many bytes at the front of the buffer.
abbrev pub came_in : ℕ → List ℕ → List ℕ
came_in count buffer = take count buffer

-- What is known once a buffer of this size was read into. The count is not free: no more came than the buffer holds. The buffer's length stays.
-- All else is free, for no contract says which bytes a read of standard input brings: how many came up to that, and what
-- each byte of the buffer is, behind the count too.
pub record Came (size count : ℕ) (buffer : List ℕ) : Type 0 where
  pub within : count ≤ size
  pub whole : length buffer ≡ size
