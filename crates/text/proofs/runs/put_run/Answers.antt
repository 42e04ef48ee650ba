-- `put_run` meets its contract.
use Prim.Native.Nat.{◌≤◌}
use native.Mathlib.Omega.{arith}
use mathlib.Core.List.{[], ◌∷◌, ◌++◌, append_assoc}
use lib.ListN.{length}
use Rattle.text.specs.Numbers.{decimal}
use Rattle.text.specs.Lines.{run_text}
use Rattle.text.proofs.Laws.Put.{after}
use Rattle.text.proofs.runs.put_run.Goals as goal

pub returns-clause-out_after : goal.returns-clause-out_after
unfolding run_text
returns-clause-out_after c =
    let out = c.args.out.now in
    let at = c.args.at in
    let n = decimal c.args.count in
    let x = decimal c.args.colour in
    let h : at ≤ length out = omega (arith, c.requires.1) in
    let p₁ = after out at (32 ∷ []) n h (c.put-counted.ensures.value, c.put-counted.ensures.to_after) (c.put_decimal-star.ensures.value, c.put_decimal-star.ensures.out_after) in
    let p₂ = after out at (32 ∷ n) (42 ∷ []) h p₁ (c.put-coloured.ensures.value, c.put-coloured.ensures.to_after) in
    let p₃ = after out at (32 ∷ (n ++ (42 ∷ []))) x h p₂ (c.put_decimal.ensures.value, c.put_decimal.ensures.out_after) in
    let all = rw (append_assoc n (42 ∷ []) x) at p₃ in
    all.1
