-- `halves` meets its contract.
use mathlib.Core.Path.{refl}
use mathlib.Core.Bool.{true, false, cond}
use lib.Dec.{ltb}
use Rattle.dirty.proofs.Laws.Bits.{each-bit}
use Rattle.dirty.proofs.joined.halves.Goals as goal

pub returns-in-true-true : goal.returns-in-true-true
returns-in-true-true c = λ k h. rw (c.in-true-true.is-0, c.in-true-true.is-1) (each-bit _ (λ j. cond (ltb j 4) true true) refl k h)

pub returns-in-true-false : goal.returns-in-true-false
returns-in-true-false c = λ k h. rw (c.in-true-false.is-0, c.in-true-false.is-1) (each-bit _ (λ j. cond (ltb j 4) true false) refl k h)

pub returns-in-false-true : goal.returns-in-false-true
returns-in-false-true c = λ k h. rw (c.in-false-true.is-0, c.in-false-true.is-1) (each-bit _ (λ j. cond (ltb j 4) false true) refl k h)
