-- `run_records`: what is left to run from place `i` on ends as the whole run does.
use native.Mathlib.Omega.{arith}
use mathlib.Core.Path.{◌≡◌, refl, sym, ap, ◌∙◌}
use mathlib.Core.Bool.{true, false}
use borrow.Author.Rules.{rules}
use Rattle.chip.specs.Refusals.{value_of}
use Rattle.port_log.specs.Single.{target}
use Rattle.port_log.specs.Run.{differs, End, ran_of}
use Rattle.port_log.proofs.Laws.Steps.{rest_over, rest-differs, rest-goes-on}
use Rattle.port_log.proofs.running.run_records.Goals as goal
use Rattle.port_log.proofs.running.run_records.Goals.{then-is_read+else-byte-record, else-is_read}

pub returns-then-byte-record : goal.returns-then-byte-record
returns-then-byte-record c =
    let test : true ≡ differs c.record_at-record.result c.unwrap_or-byte.result = grind arith in
    let end = c.loop-i.invariant.4 ∙ rest-differs c.args.records.now c.loop-i.i (omega arith) (target c.loop-i.chip c.loop-i.vram c.loop-i.map c.loop-i.line) c.record_at-record.ensures c.from-operation.ensures c.make_call-answer.ensures.value c.make_call-answer.ensures.vram_after c.make_call-answer.ensures.map_after c.make_call-answer.ensures.line_after c.unwrap_or-byte.ensures test refl in
    record {
      value = ap ran_of (sym end);
      vram_after = ap (λ (e : End). e.target.vram) (sym end);
      map_after = ap (λ (e : End). e.target.map) (sym end);
      line_after = ap (λ (e : End). e.target.line) (sym end);
    }

pub loop-i-preserved : goal.loop-i-preserved
loop-i-preserved c =
    let test : false ≡ differs c.record_at-record.result (value_of c.make_call-answer.result.result) = elim c.if-is_read.branch [
      | then-is_read+else-byte-record w ↦ grind arith
      | else-is_read w ↦ grind arith
    ] in
    (search rules, search rules, search rules, search rules, c.loop-i.invariant.4 ∙ rest-goes-on c.args.records.now c.loop-i.i (omega arith) (target c.loop-i.chip c.loop-i.vram c.loop-i.map c.loop-i.line) c.record_at-record.ensures c.from-operation.ensures c.make_call-answer.ensures.value c.make_call-answer.ensures.vram_after c.make_call-answer.ensures.map_after c.make_call-answer.ensures.line_after refl test refl)

pub returns : goal.returns
returns c =
    let end = c.loop-i.invariant.4 ∙ rest_over c.args.records.now c.loop-i.i (target c.loop-i.chip c.loop-i.vram c.loop-i.map c.loop-i.line) (omega arith) in
    record {
      value = ap ran_of (sym end);
      vram_after = ap (λ (e : End). e.target.vram) (sym end);
      map_after = ap (λ (e : End). e.target.map) (sym end);
      line_after = ap (λ (e : End). e.target.line) (sym end);
    }
