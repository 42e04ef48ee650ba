-- `put_status` meets its contract.
use Prim.Native.Nat.{◌≤◌}
use native.Mathlib.Omega.{arith}
use mathlib.Core.List.{[], ◌∷◌, ◌++◌}
use lib.ListN.{length}
use Rattle.text.specs.Numbers.{two_hex}
use Rattle.text.specs.Lines.{status_word, status_text}
use Rattle.text.proofs.Laws.Put.{after}
use Rattle.text.proofs.status.put_status.Goals as goal

pub returns-clause-out_after : goal.returns-clause-out_after
unfolding status_text
returns-clause-out_after c =
    let out = c.args.out.now in
    let x = two_hex c.args.before in
    let y = two_hex c.args.after in
    let h : 0 ≤ length out = omega arith in
    let q₂ = after out 0 status_word x h (c.put-a.ensures.value, c.put-a.ensures.to_after) (c.put_hex-b.ensures.value, c.put_hex-b.ensures.out_after) in
    let q₃ = after out 0 (status_word ++ x) (32 ∷ []) h q₂ (c.put-c.ensures.value, c.put-c.ensures.to_after) in
    let q₄ = after out 0 (status_word ++ (x ++ (32 ∷ []))) y h q₃ (c.put_hex-d.ensures.value, c.put_hex-d.ensures.out_after) in
    (after out 0 (status_word ++ (x ++ (32 ∷ y))) (10 ∷ []) h q₄ (c.put.ensures.value, c.put.ensures.to_after)).1
