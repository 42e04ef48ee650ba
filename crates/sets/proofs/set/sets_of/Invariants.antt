-- `sets_of`: the first n sprites are in the sets.
use Rattle.sets.proofs.Laws.Sets.{Begun}
use Rattle.sets.proofs.set.sets_of.Given as goal

abbrev pub invariant-loop-n : goal.invariant-loop-n
invariant-loop-n l = Begun l.screen.registers l.screen.vram.now l.sets l.n
