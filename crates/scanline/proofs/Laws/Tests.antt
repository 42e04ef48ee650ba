-- What the tests of a call say.
use borrow.Author.Tests.{eq-eqb, ne_eqb}
use Rattle.chip.proofs.Laws.State.{masked-in}

pub ruleset tests = (eq-eqb, ne_eqb, masked-in)
