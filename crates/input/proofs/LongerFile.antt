-- A full buffer is refused.
--
-- If as many bytes came in as the buffer holds, they are one too many for a snapshot, whatever they are, and reading them into
-- VRAM of the right length is refused for the snapshot's length. That a file which is longer than a snapshot fills the buffer
-- is what reading until it is full does; no contract of the C library says so.
use Prim.Native.Nat.{ℕ, ◌+◌, ◌<◌}
use native.Mathlib.Omega.{arith}
use mathlib.Core.Path.{◌≡◌}
use mathlib.Core.List.{List}
use lib.ListN.{length}
use lib.Seq.{length-take-le}
use borrow.Author.Tests.{eq-eqb, ne_eqb}
use Rattle.std.specs.Prelude.{Err}
use Rattle.chip.specs.State.{vram_size}
use Rattle.chip.specs.declared.refusal.Refusal.TheVariants.{SnapshotLength}
use Rattle.snapshot.specs.Format.{snapshot_size}
use Rattle.snapshot.specs.Calls.{read_refusal}
use Rattle.input.specs.Came.{buffer_size, long_buffer_size, came_in, Came}

pub longer-is-refused : (vram buffer : List ℕ) → length vram ≡ vram_size → Came buffer_size buffer_size buffer → read_refusal vram (came_in buffer_size buffer) ≡ Err SnapshotLength
longer-is-refused vram buffer full came =
    let all = length-take-le buffer_size buffer (omega arith) in
    rw (eq-eqb (length vram) vram_size full, ne_eqb (length (came_in buffer_size buffer)) snapshot_size (λ e. omega arith))

-- The same of the longer buffer: as many bytes are too many for a snapshot and the longest log.
pub longer-has-more : (buffer : List ℕ) → Came long_buffer_size long_buffer_size buffer → snapshot_size + 40004 < length (came_in long_buffer_size buffer)
longer-has-more buffer came =
    let all = length-take-le long_buffer_size buffer (omega arith) in
    omega arith
