-- `plane_rows_dirty` meets its contract.
use Prim.Native.Nat.{ℕ, ◌+◌, ◌*◌, ◌<◌}
use lib.ListN.{get_or}
use Rattle.fetches.specs.Fetch.{fetched, any_dirty}
use Rattle.planes.specs.Cells.{plane_of}
use Rattle.dirty.specs.Plane.{ByteBits}
use Rattle.dirty.proofs.plane.plane_rows_dirty.Given as goal

abbrev pub invariant-loop-row : goal.invariant-loop-row
invariant-loop-row l = (n : ℕ) → n < l.row → ByteBits (get_or l.byte-items n 0) (λ k. any_dirty l.map (fetched (plane_of l.mode l.screen.registers (8 * n + k)) l.screen.vram.now))
