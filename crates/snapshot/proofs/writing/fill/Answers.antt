-- `fill`: what the four puts leave is the snapshot.
use Rattle.std.proofs.Common.{◌≡◌, ◌<◌, length, ◌∙◌, arith, rules}
use Rattle.chip.proofs.Laws.TwoBytes.{low-first-two}
use Rattle.snapshot.proofs.Laws.Filling.{filled}
use Rattle.snapshot.proofs.writing.fill.Goals as goal

pub returns : goal.returns
returns c =
    let eight : length c.args.chip.registers ≡ 8 = search rules in
    let a = c.args in
    let small : c.checksum.result < 65536 = search rules in
    let sum = c.to_le_bytes-sum.ensures ∙ low-first-two c.checksum.result small in
    filled a.chip eight a.vram.now (search rules) a.out.now
    c.put.ensures.to_after
    (rw c.encode.ensures at c.put-2.ensures.to_after)
    c.put-3.ensures.to_after
    c.checksum.ensures
    (rw sum at c.put-4.ensures.to_after)
    (omega (arith, c.put-4.auto.to, c.put-3.auto.to, c.put-2.auto.to, c.put.auto.to))
