-- `put_range` meets its contract.
use Prim.Native.Nat.{◌≤◌}
use native.Mathlib.Nat.{zero-add}
use native.Mathlib.Omega.{arith}
use mathlib.Core.Path.{sym, ◌∙◌}
use mathlib.Core.List.{[], ◌∷◌, ◌++◌, append_assoc}
use lib.Dec.{eqb}
use lib.ListN.{length}
use Rattle.text.specs.Runs.{runs}
use Rattle.text.specs.Lines.{bounds_text, runs_text, range_text}
use Rattle.text.proofs.Laws.Put.{Put, after}
use Rattle.text.proofs.range.put_range.Goals as goal

pub returns-clause-out_after : goal.returns-clause-out_after
unfolding range_text
returns-clause-out_after c =
    let out = c.args.out.now in
    let bounds = bounds_text c.args.first c.args.last in
    let line = runs_text (runs eqb c.args.range.now) in
    let h : 0 ≤ length out = omega arith in
    let q₁ : Put out 0 bounds c.put_bounds-bounds.result c.put_bounds-bounds.new.out = (c.put_bounds-bounds.ensures.value ∙ sym (zero-add _), c.put_bounds-bounds.ensures.out_after) in
    let q₂ = after out 0 bounds line h q₁ (c.put_runs-runs.ensures.value, c.put_runs-runs.ensures.out_after) in
    let q₃ = rw (append_assoc bounds line (10 ∷ [])) at (after out 0 (bounds ++ line) (10 ∷ []) h q₂ (c.put.ensures.value, c.put.ensures.to_after)) in
    q₃.1
