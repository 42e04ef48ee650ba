-- `add_run`: the sets that were seen have the bit, the others are as they were.
use Rattle.sets.proofs.Laws.Run.{Run}
use Rattle.sets.proofs.set.add_run.Given as goal

abbrev pub invariant-loop-x : goal.invariant-loop-x
invariant-loop-x l = Run l.initial.part l.part l.one l.x-index
