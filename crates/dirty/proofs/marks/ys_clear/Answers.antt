-- `ys_clear` meets its contract.
use Prim.Native.Nat.{◌+◌, ◌*◌, ◌/◌, ◌%◌}
use native.Mathlib.Omega.{arith}
use mathlib.Core.Path.{sym, ap, ◌∙◌}
use borrow.Author.Tests.{eqb-true}
use lib.Dec.{lit<}
use Rattle.chip.specs.Bits.{bit}
use Rattle.dirty.proofs.Laws.Joined.{apart_from}
use Rattle.dirty.proofs.Laws.Marks.{attribute-bit, y-bits}
use Rattle.dirty.proofs.Laws.Parts.{sliced, slice-long}
use Rattle.dirty.proofs.marks.ys_clear.Goals as goal

pub returns : goal.returns
returns c =
    λ clear n h.
    let a = c.args in
    attribute-bit a.map.now a.from n 0 (lit< tt)
    ∙ sym (ap (bit (4 * (n % 2) + 0)) (sliced a.map.now a.from 16 (n / 2) (omega arith)))
    ∙ c.bits_of.ensures.lacks (4 * (n % 2) + 0) (n / 2) (omega (arith, slice-long a.map.now a.from 16 (omega (arith, c.told-map)))) (apart_from (4 * (n % 2) + 0) c.bits_of.result 17 (eqb-true _ _ clear) (y-bits (n % 2) (omega arith)))
