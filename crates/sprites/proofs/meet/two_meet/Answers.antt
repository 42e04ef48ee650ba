-- `two_meet` meets its contract.
use Rattle.std.proofs.Common.{◌≡◌, ◌||◌, max, ◌∙◌, ap₂, arith}
use Rattle.sprites.proofs.Laws.Meet.{two-rows}
use Rattle.sprites.proofs.meet.two_meet.Goals as goal

pub returns : goal.returns
returns c =
    let right : c.max-c.result ≡ max c.args.a.first c.args.b.first = omega arith in
    let first = rw right at c.meet_from.ensures in
    let next = rw right at c.meet_from-2.ensures in
    ap₂ ◌||◌ first next ∙ two-rows c.args.r c.args.a c.args.b c.requires.0.near
