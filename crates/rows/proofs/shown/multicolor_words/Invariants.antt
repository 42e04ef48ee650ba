-- `multicolor_words`: the high nibbles before `high` have their words.
use Prim.Native.Nat.{◌*◌}
use Rattle.rows.specs.Shown.{Filled, block_byte}
use Rattle.rows.proofs.shown.multicolor_words.Given as goal

abbrev pub invariant-loop-high : goal.invariant-loop-high
invariant-loop-high l = Filled l.words (block_byte l.paints) (16 * l.high)
