-- `MaskTable::new`: the patterns of the bits before `b` have their masks.
use Rattle.words.specs.Words.{MasksOf}
use Rattle.words.proofs.mask.MaskTable.new.Given as goal

abbrev pub invariant-loop-b : goal.invariant-loop-b
invariant-loop-b l = MasksOf l.b l.words
