-- `any_meet` meets its contract.
use native.Mathlib.Omega.{arith}
use mathlib.Core.Path.{◌≡◌, sym, ap₂, ◌∙◌}
use mathlib.Core.Bool.{false, ◌||◌}
use mathlib.Core.List.{List}
use lib.ListN.{get_or, take}
use lib.Seq.{take_all}
use borrow.Author.Rules.{rules}
use Rattle.std.specs.List.{list_any}
use Rattle.chip.specs.Ranges.{any_below}
use Rattle.chip.proofs.Laws.Ranges.{one_holds}
use Rattle.blit.specs.declared.wide_sprite.WideSprite.{WideSprite}
use Rattle.blit.specs.Wide.{no_wide, columns_overlap, wides_meet}
use Rattle.blit.proofs.Laws.Meet.{any_none, any-more}
use Rattle.blit.proofs.Laws.Columns.{lower-meet, none-meets}
use Rattle.blit.proofs.meet.any_meet.Goals as goal
use Rattle.blit.proofs.meet.any_meet.Goals.{else-overlaps_lower-via-then-overlaps_lower+else-meets_lower, else-overlaps_lower-via-else-overlaps_lower}

-- of the same rows
over : (n l : List WideSprite) (w : WideSprite) → list_any (λ v. columns_overlap v.sprite.first w.sprite.first) n ≡ false → n ≡ l → list_any (λ v. columns_overlap v.sprite.first w.sprite.first) l ≡ false
over n l w none e = rw e at none

pub loop-k-init : goal.loop-k-init
loop-k-init c = any_none _

pub returns-then-meets_lower : goal.returns-then-meets_lower
returns-then-meets_lower c =
    let l = c.args.found.now in
    let k = c.loop-k.k in
    let w = c.index-found-k.result in
    sym (one_holds _ (λ j. any_below j (λ i. wides_meet (get_or l i no_wide) (get_or l j no_wide))) k (omega arith) (sym (lower-meet l k w (omega arith) c.index-found-k.is) ∙ sym c.meets_lower.ensures ∙ c.if-meets_lower.true))

pub loop-k-preserved : goal.loop-k-preserved
loop-k-preserved c =
    let l = c.args.found.now in
    let k = c.loop-k.k in
    let w = c.index-found-k.result in
    let here : any_below k (λ i. wides_meet (get_or l i no_wide) (get_or l k no_wide)) ≡ false
    = elim c.else-overlaps_lower.branch [
      | else-overlaps_lower-via-then-overlaps_lower+else-meets_lower b ↦ sym (lower-meet l k w (omega arith) c.index-found-k.is) ∙ sym b.meets_lower.ensures ∙ b.if-meets_lower.false
      | else-overlaps_lower-via-else-overlaps_lower b ↦ none-meets l k w (omega arith) c.index-found-k.is (over _ (take k l) w (sym c.overlaps_lower.ensures ∙ b.if-overlaps_lower.false) (search (rules, take_all)))
    ] in
    any-more k (λ j. any_below j (λ i. wides_meet (get_or l i no_wide) (get_or l j no_wide))) ∙ ap₂ ◌||◌ c.loop-k.invariant here
