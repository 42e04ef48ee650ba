-- `patterns_clear` meets its contract.
use Rattle.dirty.proofs.Laws.Marks.{clean-part}
use Rattle.dirty.proofs.marks.patterns_clear.Goals as goal

pub returns : goal.returns
returns c =
    λ clear.
    rw c.patterns_from.ensures.0 at (clean-part c.args.map.now c.patterns_from.result 256 c.part_dirty.ensures clear)
