-- `put_report` meets its contract.
use Prim.Native.Nat.{ℕ, ◌≤◌}
use native.Mathlib.Omega.{arith}
use mathlib.Core.Path.{◌≡◌, ap, ◌∙◌}
use mathlib.Core.List.{List, [], ◌∷◌, ◌++◌, append_assoc}
use lib.ListN.{length}
use Rattle.chip.specs.Lists.{put_at}
use Rattle.text.specs.Numbers.{decimal, long_decimal}
use Rattle.text.proofs.Laws.Put.{after}
use Rattle.replay.specs.Report.{done_word, place_word, found_word, report_text}
use Rattle.replay.proofs.report.put_report.Goals as goal

pub returns-clause-out_after : goal.returns-clause-out_after
unfolding report_text
returns-clause-out_after c =
    let out : List ℕ = c.args.out.now in
    let d : List ℕ = long_decimal c.args.done in
    let p : List ℕ = long_decimal c.args.place in
    let f : List ℕ = decimal c.args.found in
    let h : 0 ≤ length out = omega arith in
    let q₂ = after out 0 done_word d h (c.put-a.ensures.value, c.put-a.ensures.to_after) (c.put_long_decimal-b.ensures.value, c.put_long_decimal-b.ensures.out_after) in
    let q₃ = after out 0 (done_word ++ d) place_word h q₂ (c.put-c.ensures.value, c.put-c.ensures.to_after) in
    let q₄ = after out 0 ((done_word ++ d) ++ place_word) p h q₃ (c.put_long_decimal-d.ensures.value, c.put_long_decimal-d.ensures.out_after) in
    let q₅ = after out 0 (((done_word ++ d) ++ place_word) ++ p) found_word h q₄ (c.put-e.ensures.value, c.put-e.ensures.to_after) in
    let q₆ = after out 0 ((((done_word ++ d) ++ place_word) ++ p) ++ found_word) f h q₅ (c.put_decimal-f.ensures.value, c.put_decimal-f.ensures.out_after) in
    let q₇ = after out 0 (((((done_word ++ d) ++ place_word) ++ p) ++ found_word) ++ f) (10 ∷ []) h q₆ (c.put.ensures.value, c.put.ensures.to_after) in
    let e : (((((done_word ++ d) ++ place_word) ++ p) ++ found_word) ++ f) ++ (10 ∷ []) ≡ report_text c.args.done c.args.place c.args.found = simp append_assoc in
    q₇.1 ∙ ap (λ (t : List ℕ). put_at 0 t out) e
