-- `add_bit`: the patterns before `n + j` have their masks.
use Prim.Native.Nat.{ℕ, ◌+◌, ◌*◌, ◌%◌, ◌^◌, ◌<◌}
use native.Mathlib.Omega.{arith}
use mathlib.Core.Path.{◌≡◌}
use borrow.Author.Count.{below_more}
use lib.Bits.{bit_or}
use lib.ListN.{get_or, set, length-set}
use lib.Seq.{get_or-set_same, get_or-set_other}
use Rattle.words.specs.Words.{IsMask}
use Rattle.words.proofs.Laws.Tables.{shown_at, mask-added}
use Rattle.words.proofs.mask.add_bit.Goals as goal

pub loop-j-preserved : goal.loop-j-preserved
loop-j-preserved c =
    let b = c.args.b in
    let at = c.loop-j in
    let n = 1 * 2 ^ b % 2 ^ 64 in
    let w = bit_or (get_or at.masks at.j 0) (shown_at b) in
    let new = set at.masks (n + at.j) w in
    let other : (p : ℕ) → p < n + at.j → get_or new p 0 ≡ get_or at.masks p 0 = λ p h. get_or-set_other at.masks (n + at.j) p w 0 (omega arith) in
    let same : get_or new (n + at.j) 0 ≡ w = get_or-set_same at.masks (n + at.j) w 0 (omega arith) in
    let more : IsMask (2 ^ b + at.j) w = mask-added b at.j (get_or at.masks at.j 0) (omega arith) (omega arith) (at.invariant.3 at.j (omega arith)) in (
      at.invariant.0,
      at.invariant.1,
      simp length-set at.invariant.2,
      λ p h. below_more (λ p. IsMask p (get_or new p 0)) (n + at.j)
          (λ p h. rw (other p h) (at.invariant.3 p h))
          (rw (same, at.invariant.0) more) p (omega arith),
    )
