-- `redraw_rows`: one row more, and all of them.
use native.Mathlib.Omega.{arith}
use Rattle.frame.proofs.Laws.Step.{rows-more, rows-notes}
use Rattle.frame.proofs.lines.redraw_rows.Goals as goal

pub loop-row-preserved : goal.loop-row-preserved
loop-row-preserved c =
    let lines = rw (c.new-brush.ensures.registers, c.new-brush.ensures.vram) at c.redraw_row-count.ensures.part_after in
    let notes = rw (c.new-brush.ensures.registers, c.new-brush.ensures.vram) at c.redraw_row-count.ensures.notes_after in
    rows-more c.told-frame (omega arith) c.loop-row.invariant (omega arith) (omega arith) lines notes c.redraw_row-count.ensures.value

pub returns-clause-notes_after : goal.returns-clause-notes_after
returns-clause-notes_after c = rows-notes (omega arith) c.loop-row.invariant
