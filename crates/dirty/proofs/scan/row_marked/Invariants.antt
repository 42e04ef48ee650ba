-- `row_marked` meets its contract.
use Prim.Native.Nat.{◌+◌, ◌*◌}
use Rattle.dirty.specs.Marks.{scan_dirty}
use Rattle.dirty.proofs.Laws.Added.{Bits}
use Rattle.dirty.proofs.scan.row_marked.Given as goal

abbrev pub invariant-loop-k : goal.invariant-loop-k
invariant-loop-k l = Bits (λ j. scan_dirty l.screen.registers l.screen.vram.now l.map (8 * l.row + j)) l.before l.k l.byte
