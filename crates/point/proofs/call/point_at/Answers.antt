-- `point_at` meets its contract.
use Rattle.std.proofs.Common.{length, arith}
use mathlib.Core.Path.{sym, ◌∙◌}
use borrow.Author.Tests.{eq-eqb, le-leb}
use Rattle.chip.proofs.Laws.State.{masked-in}
use Rattle.point.proofs.Laws.Point.{pixel-colour}
use Rattle.point.proofs.call.point_at.Goals as goal

pub new-screen-requires : goal.new-screen-requires
new-screen-requires c = grind (arith, masked-in)

pub returns : goal.returns
returns c =
    rw (eq-eqb (length c.args.vram.now) 16384 c.in-Some.ensures.cases.long, sym c.is_well_formed.ensures ∙ c.if-not-is_well_formed.false, le-leb _ _ c.if-line-gt191.false, le-leb _ _ c.if-column-gt255.false)
    (grind (arith, pixel-colour))
