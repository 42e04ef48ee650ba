-- `joined` meets its contract.
use Prim.Native.Nat.{◌+◌}
use lib.ListN.{get_or}
use Rattle.chip.specs.Bits.{bit}
use Rattle.chip.specs.Ranges.{any_below}
use Rattle.dirty.specs.Plane.{ByteBits}
use Rattle.dirty.proofs.joined.joined.Given as goal

abbrev pub invariant-loop-name : goal.invariant-loop-name
invariant-loop-name l = ByteBits l.b (λ k. any_below l.name-index (λ j. bit k (get_or l.map (l.base + get_or l.names j 0) 0)))
