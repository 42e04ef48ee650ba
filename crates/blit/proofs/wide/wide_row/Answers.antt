-- `wide_row` meets its contract.
use Prim.Native.Nat.{ℕ, ◌/◌, ◌%◌}
use native.Mathlib.Omega.{arith}
use mathlib.Core.Path.{◌≡◌, sym, ap, ◌∙◌}
use mathlib.Core.Bool.{true, false}
use mathlib.Core.List.{List}
use lib.ListN.{get_or}
use Rattle.chip.specs.Modes.{magnified}
use Rattle.blit.proofs.Laws.Wide.{wide, plain, twice}
use Rattle.blit.proofs.wide.wide_row.Goals as goal

pub returns-then-is_magnified : goal.returns-then-is_magnified
returns-then-is_magnified c =
    let bits : ℕ = c.args.s.bits in
    let left : get_or c.to_be_bytes.result 0 0 ≡ bits / 256 = ap (λ (l : List ℕ). get_or l 0 0) c.to_be_bytes.ensures ∙ omega arith in
    let right : get_or c.to_be_bytes.result 1 0 ≡ bits % 256 = ap (λ (l : List ℕ). get_or l 1 0) c.to_be_bytes.ensures in
    let m : magnified c.args.r ≡ true = sym c.is_magnified.ensures ∙ c.if-is_magnified.true in
    wide c.args.r c.args.s c.requires _
    (λ k h. rw m (twice bits c.doubled.result c.doubled-then-is_magnified.result k c.doubled-then-is_magnified.ensures.upper_bound (rw left at c.doubled.ensures.by_index) (rw right at c.doubled-then-is_magnified.ensures.by_index) h))

pub returns-else-is_magnified : goal.returns-else-is_magnified
returns-else-is_magnified c =
    let m : magnified c.args.r ≡ false = sym c.is_magnified.ensures ∙ c.if-is_magnified.false in
    wide c.args.r c.args.s c.requires _ (λ k h. rw m (plain c.args.s.bits k h))
