-- `marks_of` meets its contract.
use Rattle.dirty.proofs.Laws.Marks.{MarkedBelow}
use Rattle.dirty.proofs.marks.marks_of.Given as goal

abbrev pub invariant-loop-i : goal.invariant-loop-i
invariant-loop-i l = MarkedBelow l.map l.from l.i l.marks
