-- `redraw_each`: the lines before `k` are redrawn if due, and counted.
use Rattle.redraw.proofs.Laws.Row.{RowRedrawn}
use Rattle.redraw.proofs.row.redraw_each.Given as goal

abbrev pub invariant-loop-k : goal.invariant-loop-k
invariant-loop-k l = RowRedrawn l.drawing l.row l.due l.initial.part l.initial.notes l.part l.notes l.redrawn l.k
