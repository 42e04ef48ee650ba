-- Rows that have no column in common do not meet.
use Prim.Native.Nat.{ℕ, ◌+◌, ◌≤◌, ◌<◌}
use native.Mathlib.Decide.{dec_lt}
use native.Mathlib.Omega.{arith}
use mathlib.Core.Path.{◌≡◌, refl, sym, ap, ap₂, ◌∙◌}
use mathlib.Core.Bool.{Bool, true, false, ◌&&◌}
use mathlib.Core.List.{List}
use borrow.Author.Tests.{lt-ltb, le-ltb}
use lib.Dec.{ltb}
use lib.ListN.{length, get_or, take}
use Rattle.std.specs.Int.{abs_diff}
use Rattle.std.specs.List.{list_any}
use Rattle.std.proofs.lemmas.List.{get_or_default}
use Rattle.chip.specs.Ranges.{any_below}
use Rattle.chip.proofs.Laws.Ranges.{none-holds, any-fails}
use Rattle.chip.proofs.Laws.Refusals.{differ}
use Rattle.sprites.specs.Pixels.{reach}
use Rattle.blit.specs.declared.wide_sprite.WideSprite.{WideSprite}
use Rattle.blit.specs.Wide.{no_wide, shown_at, columns_overlap, rows_meet, wides_meet}
use Rattle.blit.proofs.Laws.Meet.{shown-low, shown-high, any-lower}

-- by the distance of one from the other
pub by-distance : (f g : ℕ) → ltb (abs_diff f g) 32 ≡ columns_overlap f g
unfolding columns_overlap
by-distance f g = by (dec_lt f (g + 32)) (dec_lt g (f + 32))
  where
    by : Dec (f < g + 32) → Dec (g < f + 32) → ltb (abs_diff f g) 32 ≡ (ltb f (g + 32) && ltb g (f + 32))
    by (yes i) (yes j) = lt-ltb (abs_diff f g) 32 (omega arith) ∙ sym (ap₂ ◌&&◌ (lt-ltb f (g + 32) i) (lt-ltb g (f + 32) j))
    by (yes i) (no o) =
        let past : f + 32 ≤ g = omega arith in
        le-ltb (abs_diff f g) 32 (omega arith) ∙ sym (ap₂ ◌&&◌ (lt-ltb f (g + 32) i) (le-ltb g (f + 32) past))
    by (no o) d =
        let past : g + 32 ≤ f = omega arith in
        le-ltb (abs_diff f g) 32 (omega arith) ∙ sym (ap (λ (b : Bool). b && ltb g (f + 32)) (le-ltb f (g + 32) past))

-- the same, by a limit that is 32
pub by-limit : (f g limit : ℕ) → limit ≡ 32 → ltb (abs_diff f g) limit ≡ columns_overlap f g
by-limit f g limit e = rw e (by-distance f g)

apart : (f v g w : ℕ) → columns_overlap f g ≡ false → rows_meet f v g w ≡ false
unfolding columns_overlap rows_meet
apart f v g w e = none-holds reach _ (λ c h. by c (shown_at f v c) (shown_at g w c) refl refl)
  where
    by : (c : ℕ) (p q : Bool) → shown_at f v c ≡ p → shown_at g w c ≡ q → (p && q) ≡ false
    by c true true ep eq =
        let first : f < g + 32 = omega (arith, shown-low f v c ep, shown-high g w c eq) in
        let second : g < f + 32 = omega (arith, shown-low g w c eq, shown-high f v c ep) in
        absurd (differ (sym (ap₂ ◌&&◌ (lt-ltb f (g + 32) first) (lt-ltb g (f + 32) second)) ∙ e))
    by c true false ep eq = refl
    by c false q ep eq = refl

-- the row at place k and those before it
module _ (l : List WideSprite) (k : ℕ) (w : WideSprite) (h : k < length l) (is : w ≡ get_or l k w) where
  own : w ≡ get_or l k no_wide
  own = is ∙ get_or_default l k w no_wide h

  abbrev lower : Bool
  lower = any_below k (λ i. wides_meet (get_or l i no_wide) (get_or l k no_wide))

  pub lower-meet : list_any (λ v. wides_meet v w) (take k l) ≡ lower
  lower-meet = any-lower (λ v. wides_meet v w) l k no_wide (omega arith) ∙ ap (λ (x : WideSprite). any_below k (λ i. wides_meet (get_or l i no_wide) x)) own

  pub none-meets : list_any (λ v. columns_overlap v.sprite.first w.sprite.first) (take k l) ≡ false → lower ≡ false
  none-meets e =
      let none = sym (any-lower (λ v. columns_overlap v.sprite.first w.sprite.first) l k no_wide (omega arith)) ∙ e in
      ap (λ (x : WideSprite). any_below k (λ i. wides_meet (get_or l i no_wide) x)) (sym own)
      ∙ none-holds k (λ i. wides_meet (get_or l i no_wide) w)
      (λ i below. apart (get_or l i no_wide).sprite.first (get_or l i no_wide).row w.sprite.first w.row (any-fails k (λ i. columns_overlap (get_or l i no_wide).sprite.first w.sprite.first) none i below))
