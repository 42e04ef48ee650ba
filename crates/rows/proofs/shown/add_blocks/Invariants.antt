-- `add_blocks`: the low nibbles before `low` have their words.
use Prim.Native.Nat.{◌+◌}
use Rattle.rows.specs.Shown.{Filled, block_byte}
use Rattle.rows.proofs.shown.add_blocks.Given as goal

abbrev pub invariant-loop-low : goal.invariant-loop-low
invariant-loop-low l = Filled l.words (block_byte l.paints) (l.first + l.low)
