-- `paints`: the colours before `colour` are mixed.
use Rattle.rows.proofs.Laws.Paints.{Mixed}
use Rattle.rows.proofs.paint.paints.Given as goal

abbrev pub invariant-loop-colour : goal.invariant-loop-colour
invariant-loop-colour l = Mixed l.paints l.behind l.colour
