-- `put_refused` meets its contract.
use Prim.Native.Nat.{◌≤◌}
use native.Mathlib.Omega.{arith}
use mathlib.Core.List.{[], ◌∷◌, ◌++◌}
use lib.ListN.{length}
use Rattle.text.specs.Numbers.{decimal}
use Rattle.text.specs.Lines.{refused_word, refused_text}
use Rattle.text.proofs.Laws.Put.{after}
use Rattle.text.proofs.refusal.put_refused.Goals as goal

pub returns-clause-out_after : goal.returns-clause-out_after
unfolding refused_text
returns-clause-out_after c =
    let out = c.args.out.now in
    let n = decimal c.args.number in
    let h : 0 ≤ length out = omega arith in
    let p₁ = after out 0 refused_word n h (c.put-a.ensures.value, c.put-a.ensures.to_after) (c.put_decimal-b.ensures.value, c.put_decimal-b.ensures.out_after) in
    let p₂ = after out 0 (refused_word ++ n) (10 ∷ []) h p₁ (c.put.ensures.value, c.put.ensures.to_after) in
    p₂.1
