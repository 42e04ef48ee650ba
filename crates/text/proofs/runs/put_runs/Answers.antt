-- `put_runs`: what is left to write, put in behind what is written, gives the line's runs.
use Rattle.std.proofs.Common.{rules, eqb}
use Rattle.std.proofs.lemmas.Fn.{always_returns_same}
use Rattle.text.proofs.Laws.Going.{going_on, going_end}
use Rattle.text.proofs.runs.put_runs.Goals as goal

pub loop-run-preserved : goal.loop-run-preserved
loop-run-preserved c =
    let a = c.args in
    let (parts, some, by) = c.in-Some.ensures.steps in
    let chunk = by eqb (always_returns_same _ _ _ (λ a r f' k. search rules)) in
    going_on a.out.now a.at a.line.now c.requires c.loop-run.invariant _ _ parts some chunk.1 (c.put_run-end.ensures.value, c.put_run-end.ensures.out_after) c.put_run-end.auto.out

pub returns : goal.returns
returns c =
    let w = going_end c.args.out.now c.args.at c.args.line.now c.requires c.loop-run.invariant c.in-None.ensures.steps.0 in
    record { value = w.0; out_after = w.1 }
