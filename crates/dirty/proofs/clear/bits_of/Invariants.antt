-- `bits_of`: the joined bytes are 0 where each of them is.
use Prim.Native.Nat.{ℕ, ◌<◌}
use mathlib.Core.Path.{◌≡◌}
use mathlib.Core.Bool.{false}
use lib.Dec.{eqb}
use lib.ListN.{get_or}
use Rattle.chip.specs.Bits.{bit}
use Rattle.chip.specs.Ranges.{all_below}
use Rattle.dirty.proofs.clear.bits_of.Given as goal

abbrev pub invariant-loop-byte : goal.invariant-loop-byte
invariant-loop-byte l = record {
  none : eqb l.joined 0 ≡ all_below l.byte-index (λ k. eqb (get_or l.map k 0) 0);
  lacks : (k m : ℕ) → m < l.byte-index → bit k l.joined ≡ false → bit k (get_or l.map m 0) ≡ false;
}
