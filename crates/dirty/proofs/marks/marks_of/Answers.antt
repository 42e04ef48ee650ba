-- `marks_of` meets its contract.
use Prim.Native.Nat.{◌<◌}
use native.Mathlib.Omega.{arith}
use Rattle.dirty.proofs.Laws.Marks.{marks-more}
use Rattle.dirty.proofs.Laws.Parts.{sliced, slice-long}
use Rattle.dirty.proofs.marks.marks_of.Goals as goal

pub loop-i-preserved : goal.loop-i-preserved
loop-i-preserved c =
    let a = c.args in
    let i = c.loop-i.i in
    let below : i < 16 = omega (arith, slice-long a.map.now a.from 16 (omega (arith, c.told-map))) in
    let pair = rw (sliced a.map.now a.from 16 i below) at c.pair_marks.ensures in
    marks-more a.map.now a.from c.loop-i.marks c.pair_marks.result i below c.loop-i.invariant pair
