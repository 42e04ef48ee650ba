-- `joined` meets its contract.
use Prim.Native.Nat.{ℕ, ◌+◌}
use native.Mathlib.Numerals.{add-one}
use mathlib.Core.Path.{ap, ◌∙◌}
use mathlib.Core.Bool.{Bool, ◌||◌}
use lib.ListN.{get_or}
use Rattle.chip.specs.Bits.{bit}
use Rattle.chip.specs.Ranges.{any_below}
use Rattle.chip.proofs.Laws.Bits.{bit-zero, bit-or}
use Rattle.dirty.proofs.joined.joined.Goals as goal

pub loop-name-init : goal.loop-name-init
unfolding any_below
loop-name-init c = λ k h. bit-zero k

pub loop-name-preserved : goal.loop-name-preserved
unfolding any_below
loop-name-preserved c =
    let a = c.args in
    let next : ℕ = get_or a.map.now (a.base + get_or a.names.now c.loop-name.name-index 0) 0 in
    λ k h. rw add-one (bit-or k c.loop-name.b next ∙ ap (λ (t : Bool). t || bit k next) (c.loop-name.invariant k h))
