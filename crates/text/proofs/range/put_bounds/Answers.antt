-- `put_bounds` meets its contract.
use Prim.Native.Nat.{◌≤◌}
use native.Mathlib.Omega.{arith}
use mathlib.Core.List.{[], ◌∷◌, ◌++◌, append_assoc}
use lib.ListN.{length}
use Rattle.text.specs.Numbers.{decimal}
use Rattle.text.specs.Lines.{lines_word, bounds_text}
use Rattle.text.proofs.Laws.Put.{after}
use Rattle.text.proofs.range.put_bounds.Goals as goal

pub returns-clause-out_after : goal.returns-clause-out_after
unfolding bounds_text
returns-clause-out_after c =
    let out = c.args.out.now in
    let a = decimal c.args.first in
    let b = decimal c.args.last in
    let h : 0 ≤ length out = omega arith in
    let p₁ = after out 0 lines_word a h (c.put-a.ensures.value, c.put-a.ensures.to_after) (c.put_decimal-dash.ensures.value, c.put_decimal-dash.ensures.out_after) in
    let p₂ = after out 0 (lines_word ++ a) (45 ∷ []) h p₁ (c.put-b.ensures.value, c.put-b.ensures.to_after) in
    let p₃ = rw (append_assoc a (45 ∷ []) b) at (after out 0 (lines_word ++ (a ++ (45 ∷ []))) b h p₂ (c.put_decimal.ensures.value, c.put_decimal.ensures.out_after)) in
    p₃.1
