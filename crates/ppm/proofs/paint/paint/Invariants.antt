-- `paint`: the first `x` colours are painted.
use Rattle.ppm.proofs.Laws.Paint.{Painting}
use Rattle.ppm.proofs.paint.paint.Given as goal

abbrev pub invariant-loop-x : goal.invariant-loop-x
invariant-loop-x l = Painting l.colours l.initial.out l.out l.x
