-- `redraw_due` meets its contract.
use mathlib.Core.Path.{◌∙◌}
use Rattle.redraw.proofs.Laws.Whole.{as_lent}
use Rattle.redraw.proofs.row.redraw_due.Goals as goal

pub returns-clause-part_after : goal.returns-clause-part_after
returns-clause-part_after c = c.redraw_each.ensures.part_after ∙ as_lent c.args.drawing.now c.args.row c.draw_planes-planes.result (λ here. (c.draw_planes-planes.ensures.due_value here).0) c.draw_planes-planes.ensures.part_unchanged
