-- A clear map has no dirty bit.
use Prim.Native.Nat.{ℕ, ◌%◌, ◌/◌}
use mathlib.Core.Path.{◌≡◌, refl, ap, ap₂, ◌∙◌}
use mathlib.Core.Bool.{Bool, true, false, ◌||◌}
use mathlib.Core.List.{List, [], ◌∷◌}
use lib.Dec.{eqb, ltb}
use borrow.Author.Tests.{eqb-true, ltb-true, ltb-false}
use lib.ListN.{length, get_or, get_or-eq_default}
use Rattle.chip.specs.Bits.{bit}
use Rattle.chip.proofs.Laws.Bits.{bit-zero}
use Rattle.chip.proofs.Laws.Ranges.{each_holds}
use Rattle.fetches.specs.Fetch.{any_dirty}
use Rattle.dirty.specs.Clear.{is_clear}

module _ (map : List ℕ) (clear : is_clear map ≡ true) where
  pub everywhere : (k : ℕ) → get_or map k 0 ≡ 0
  unfolding is_clear
  everywhere k = by (ltb k (length map)) refl
    where
      by : (b : Bool) → ltb k (length map) ≡ b → get_or map k 0 ≡ 0
      by true e = eqb-true (get_or map k 0) 0 (each_holds (length map) (λ i. eqb (get_or map i 0) 0) clear k (ltb-true k (length map) e))
      by false e = get_or-eq_default map 0 (ltb-false k (length map) e)

  pub none-dirty : (l : List ℕ) → any_dirty map l ≡ false
  none-dirty [] = refl
  none-dirty (a ∷ l) = ap₂ (λ (p q : Bool). p || q) (ap (bit (a % 8)) (everywhere (a / 8)) ∙ bit-zero (a % 8)) (none-dirty l)
