-- `redraw_rows`: the lines of the rows before `row` are redrawn if due, and counted.
use Prim.Native.Nat.{◌*◌}
use Rattle.frame.proofs.Laws.Step.{RowsRedrawn}
use Rattle.frame.proofs.lines.redraw_rows.Given as goal

abbrev pub invariant-loop-row : goal.invariant-loop-row
invariant-loop-row l = RowsRedrawn l.fn.rows l.fn.screen.registers l.fn.screen.vram.now l.initial.frame l.initial.notes l.frame l.notes l.redrawn (8 * l.row)
