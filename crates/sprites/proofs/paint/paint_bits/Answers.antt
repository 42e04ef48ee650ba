-- `paint_bits` meets its contract.
use Rattle.std.proofs.Common.{◌≡◌, ℕ, ◌<◌, ◌≤◌, cond, arith}
use Rattle.sprites.specs.Pixels.{visible, hits}
use Rattle.sprites.proofs.Laws.Columns.{hits-left, hits-right}
use Rattle.sprites.proofs.Laws.Paint.{swept_none, swept_all}
use Rattle.sprites.proofs.paint.paint_bits.Goals as goal

pub loop-c-init : goal.loop-c-init
loop-c-init c =
    let a = c.args in
    swept_none c.told-line (λ x below o. rw (hits-left a.r a.s (visible x) (omega (arith, c.first_visible-c.ensures))))

pub returns : goal.returns
returns c =
    let a = c.args in
    let l = c.loop-c in
    let keeps : (x : ℕ) → x < 256 → l.c ≤ visible x → (o : ℕ) → cond (hits a.r a.s (visible x)) a.value o ≡ o = λ x h above o. rw (hits-right a.r a.s (visible x) (omega (arith, c.end_visible-c-end.ensures, c.loop-c-test.false))) in
    swept_all keeps l.invariant
