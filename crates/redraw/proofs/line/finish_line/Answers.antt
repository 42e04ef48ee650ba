-- `finish_line` meets its contract.
use mathlib.Core.Path.{◌∙◌}
use Rattle.redraw.proofs.Laws.Finish.{found-line}
use Rattle.redraw.proofs.line.finish_line.Goals as goal

pub returns-clause-line_after : goal.returns-clause-line_after
returns-clause-line_after c = c.draw_found-met.ensures.line_after ∙ found-line c.requires.0 c.if-set-eq0.false c.scan_by_set-scan.ensures c.requires.1
