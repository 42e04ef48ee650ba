-- `text_words`: the bytes before `b` have their words.
use Prim.Native.Nat.{◌-◌}
use mathlib.Core.Bool.{cond}
use Rattle.chip.specs.Bits.{bit}
use Rattle.words.specs.Words.{byte_of}
use Rattle.rows.specs.Shown.{Filled}
use Rattle.rows.proofs.shown.text_words.Given as goal

abbrev pub invariant-loop-b : goal.invariant-loop-b
invariant-loop-b l = Filled l.words (λ pattern j. cond (bit (7 - j) pattern) (byte_of j l.one) (byte_of j l.zero)) l.b
