-- `rows_meet` meets its contract.
use Prim.Native.Nat.{◌+◌}
use native.Mathlib.Omega.{arith}
use mathlib.Core.Path.{sym, ◌∙◌}
use borrow.Author.Tests.{le-ltb}
use Rattle.chip.proofs.Laws.Ranges.{none-holds}
use Rattle.blit.proofs.Laws.Shifted.{rows-meet}
use Rattle.blit.proofs.meet.rows_meet.Goals as goal

pub returns-then-d-lt32 : goal.returns-then-d-lt32
returns-then-d-lt32 c =
    let a = c.args in
    rows-meet a.a a.b a.d (omega arith)

pub returns-else-d-lt32 : goal.returns-else-d-lt32
returns-else-d-lt32 c =
    let d = c.args.d in
    le-ltb d 32 (omega arith) ∙ sym (none-holds 32 _ (λ k h. rw (le-ltb (k + d) 32 (omega arith))))
