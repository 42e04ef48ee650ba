-- `all_allowed`: the next part, of 64 bytes or all that are left, decides with those behind it.
use Prim.Native.Nat.{ℕ}
use native.Mathlib.Omega.{arith}
use mathlib.Core.Path.{◌≡◌, sym, ap, ◌∙◌}
use mathlib.Core.Bool.{◌&&◌}
use mathlib.Core.List.{List, ◌++◌}
use lib.ListN.{length, length-append}
use Rattle.std.specs.Prelude.{min}
use Rattle.std.proofs.lemmas.List.{nil_from_length}
use Rattle.port_log.specs.Records.{all_allowed, records_of}
use Rattle.port_log.proofs.Laws.Records.{allowed_parts}
use Rattle.port_log.proofs.records.all_allowed.Goals as goal

next-part : (l a b : List ℕ) → l ≡ a ++ b → length a ≡ min 64 (length l) → all_allowed (records_of l) ≡ (all_allowed (records_of a) && all_allowed (records_of b))
next-part l a b parts size =
    let both = ap length parts ∙ length-append a b in
    ap (λ (bytes : List ℕ). all_allowed (records_of bytes)) parts ∙ allowed_parts a b (λ more. omega arith)

pub returns-then-not-part_allowed : goal.returns-then-not-part_allowed
returns-then-not-part_allowed c =
    let steps = c.in-Some.ensures.steps in
    let next = next-part _ _ _ steps.1.0 (rw c.loop-part.invariant.0 at steps.1.1) in
    sym (c.loop-part.invariant.1 ∙ rw (sym c.if-not-part_allowed.ensures) at next)

pub loop-part-preserved : goal.loop-part-preserved
loop-part-preserved c =
    let steps = c.in-Some.ensures.steps in
    let next = next-part _ _ _ steps.1.0 (rw c.loop-part.invariant.0 at steps.1.1) in
    (steps.0 ∙ c.loop-part.invariant.0, c.loop-part.invariant.1 ∙ rw (sym c.if-not-part_allowed.ensures) at next)

pub returns : goal.returns
unfolding all_allowed records_of
returns c = sym (c.loop-part.invariant.1 ∙ ap (λ (bytes : List ℕ). all_allowed (records_of bytes)) (nil_from_length _ c.in-None.ensures.steps.1.0))
