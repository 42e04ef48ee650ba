-- `add_marked` meets its contract.
use Prim.Native.Nat.{◌+◌, ◌*◌}
use Rattle.dirty.specs.Marks.{scan_dirty}
use Rattle.dirty.proofs.Laws.Added.{Rows}
use Rattle.dirty.proofs.scan.add_marked.Given as goal

abbrev pub invariant-loop-row : goal.invariant-loop-row
invariant-loop-row l = Rows (λ m k. scan_dirty l.screen.registers l.screen.vram.now l.map (8 * m + k)) l.initial.rows l.row l.rows
