-- `write_stretch`: each data write leaves a run that ends as before.
use native.Mathlib.Omega.{arith}
use mathlib.Core.Path.{◌∙◌}
use borrow.Author.Rules.{rules}
use Rattle.port_log.proofs.Laws.Steps.{data-write-goes-on}
use Rattle.port_log.proofs.stretch.write_stretch.Goals as goal

pub returns-then-next-count-clause-ends_alike : goal.returns-then-next-count-clause-ends_alike
returns-then-next-count-clause-ends_alike c =
    let a = c.args in
    λ line. c.loop-next.invariant.5 line ∙ data-write-goes-on a.records.now c.loop-next.next c.loop-next.invariant.1 c.loop-next.invariant.2 c.loop-next.chip c.loop-next.vram c.loop-next.map c.record_at-record.ensures c.data_write.ensures.value c.data_write.ensures.vram_after c.data_write.ensures.map_after line

pub loop-next-preserved : goal.loop-next-preserved
loop-next-preserved c =
    let a = c.args in
    (omega arith, omega arith, omega arith, search rules, search rules, λ line. c.loop-next.invariant.5 line ∙ data-write-goes-on a.records.now c.loop-next.next c.loop-next.invariant.1 c.loop-next.invariant.2 c.loop-next.chip c.loop-next.vram c.loop-next.map c.record_at-record.ensures c.data_write.ensures.value c.data_write.ensures.vram_after c.data_write.ensures.map_after line)
