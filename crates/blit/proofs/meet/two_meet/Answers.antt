-- `two_meet` meets its contract.
use native.Mathlib.Omega.{arith}
use mathlib.Core.Path.{◌∙◌}
use mathlib.Core.Bool.{and_comm}
use Rattle.chip.proofs.Laws.Ranges.{any_same}
use Rattle.sprites.specs.Pixels.{reach}
use Rattle.blit.specs.Wide.{shown_at, rows_meet}
use Rattle.blit.proofs.Laws.Meet.{two-rows}
use Rattle.blit.proofs.meet.two_meet.Goals as goal

pub returns-then-f-g : goal.returns-then-f-g
returns-then-f-g c =
    let v = c.args.v in
    let w = c.args.w in
    c.rows_meet.ensures ∙ two-rows v.sprite.first v.row w.sprite.first w.row _ (omega arith) w.near

pub returns-else-f-g : goal.returns-else-f-g
unfolding rows_meet
returns-else-f-g c =
    let v = c.args.v in
    let w = c.args.w in
    c.rows_meet-else-f-g.ensures
    ∙ two-rows w.sprite.first w.row v.sprite.first v.row _ (omega arith) v.near
    ∙ any_same reach _ _ (λ k h. and_comm (shown_at w.sprite.first w.row k) (shown_at v.sprite.first v.row k))
