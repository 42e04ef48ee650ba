-- `add_by_lines`: the sprite is in the sets of its first d lines.
use Rattle.sets.proofs.Laws.Added.{Added}
use Rattle.sets.proofs.set.add_by_lines.Given as goal

abbrev pub invariant-loop-d : goal.invariant-loop-d
invariant-loop-d l = Added l.initial.sets l.sets l.y l.one l.d
