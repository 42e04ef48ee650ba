-- `redraw_each`: the lines before `k` are redrawn if due, and counted.
use Prim.Native.Nat.{◌<◌}
use native.Mathlib.Omega.{arith}
use mathlib.Core.Path.{◌∙◌}
use Rattle.redraw.proofs.Laws.Row.{part-at, plane-line, line-kept, row-more, row-notes}
use Rattle.redraw.proofs.row.redraw_each.Goals as goal

pub redraw_line-requires : goal.redraw_line-requires
redraw_line-requires c =
    let more : c.loop-k.k < 8 = omega arith in
    let kept = line-kept c.told-part more c.loop-k.invariant in
    let beside = (rw c.unwrap.ensures at c.try_into.ensures.1).same ∙ part-at c.loop-k.k c.args.beside.now in
    (omega arith, omega arith, λ e. kept ∙ plane-line c.args.drawing.now c.args.row c.loop-k.k more (c.requires.1 e), λ e. beside ∙ plane-line c.args.drawing.now c.args.row c.loop-k.k more (c.requires.2 e))

pub loop-k-preserved : goal.loop-k-preserved
loop-k-preserved c = row-more c.told-part (omega arith) c.loop-k.invariant c.bit-is_due.ensures c.redraw_line.ensures.line_after c.redraw_line.ensures.value

pub returns-clause-notes_after : goal.returns-clause-notes_after
returns-clause-notes_after c = row-notes (omega arith) c.loop-k.invariant
