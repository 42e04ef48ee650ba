-- `bits_of`: the joined bytes are 0 where each of them is.
use Prim.Native.Nat.{ℕ}
use native.Mathlib.Numerals.{add-one}
use native.Mathlib.Omega.{arith}
use mathlib.Core.Path.{◌≡◌, ap, ◌∙◌}
use mathlib.Core.Bool.{Bool, false, ◌&&◌}
use borrow.Author.Count.{below_more}
use lib.Bits.{bit_or}
use lib.Dec.{eqb}
use lib.ListN.{length, get_or}
use Rattle.chip.specs.Bits.{bit}
use Rattle.chip.specs.Ranges.{all_below}
use Rattle.dirty.specs.Clear.{is_clear}
use Rattle.chip.proofs.Laws.Bits.{joined-zero}
use Rattle.dirty.proofs.Laws.Joined.{first-lacks, second-lacks}
use Rattle.dirty.proofs.clear.bits_of.Goals as goal

pub loop-byte-preserved : goal.loop-byte-preserved
loop-byte-preserved c =
    let map = c.args.map.now in
    let before = c.loop-byte.joined in
    let i = c.loop-byte.byte-index in
    let byte : ℕ = get_or map i 0 in
    record {
      none = rw add-one (joined-zero before byte ∙ ap (λ (b : Bool). b && eqb byte 0) c.loop-byte.invariant.none);
      lacks = λ k. below_more (λ m. bit k (bit_or before byte) ≡ false → bit k (get_or map m 0) ≡ false) i (λ m h e. c.loop-byte.invariant.lacks k m h (first-lacks k before byte e)) (second-lacks k before byte);
    }

pub returns-clause-none : goal.returns-clause-none
unfolding is_clear
returns-clause-none c =
    let map = c.args.map.now in
    let whole : c.loop-byte.byte-index ≡ length map = omega arith in
    c.loop-byte.invariant.none ∙ ap (λ (n : ℕ). all_below n (λ k. eqb (get_or map k 0) 0)) whole
