-- `fill`: what the three puts leave is the log.
use Prim.Native.Nat.{◌<◌}
use native.Mathlib.Omega.{arith}
use mathlib.Core.Path.{◌∙◌}
use borrow.Author.Rules.{rules}
use Rattle.chip.proofs.Laws.TwoBytes.{low-first-two}
use Rattle.port_log.proofs.Laws.Filling.{filled}
use Rattle.port_log.proofs.writing.fill.Goals as goal

pub returns : goal.returns
returns c =
    let a = c.args in
    let small : c.checksum.result < 65536 = search rules in
    let distance = c.to_le_bytes-distance.ensures ∙ low-first-two c.put-trailer.result (omega arith) in
    let sum = c.to_le_bytes-sum.ensures ∙ low-first-two c.checksum.result small in
    filled a.records.now a.log.now
    c.put-trailer.ensures.value
    c.put-trailer.ensures.to_after
    (rw distance at c.put-field.ensures.value)
    (rw distance at c.put-field.ensures.to_after)
    c.checksum.ensures
    (rw sum at c.put.ensures.to_after)
    (omega (arith, c.put.auto.to, c.put-field.auto.to, c.put-trailer.auto.to, c.requires.0))
