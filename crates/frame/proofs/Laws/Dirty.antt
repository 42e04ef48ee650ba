-- The map after one more bit is set: that byte is dirty, and all that were still are.
use Prim.Native.Nat.{ℕ, ◌/◌, ◌%◌, ◌^◌, ◌<◌}
use mathlib.Core.Path.{◌≡◌, refl, sym, ap, ◌∙◌}
use mathlib.Core.Bool.{Bool, true, false, ◌||◌}
use mathlib.Core.List.{List, [], ◌∷◌}
use lib.Bits.{bit_or}
use lib.Dec.{eqb}
use lib.ListN.{length, get_or, set}
use lib.Seq.{get_or-set_same, get_or-set_other}
use borrow.Author.Tests.{eqb-true, eqb-false}
use Rattle.chip.specs.Bits.{bit, set_bit}
use Rattle.chip.specs.Map.{set_dirty, is_dirty}
use Rattle.chip.proofs.Laws.Bits.{bit-or, set_same}
use Rattle.chip.proofs.Laws.Refusals.{differ, neither}
use Rattle.fetches.specs.Fetch.{Agree, any_dirty}

-- a set bit stays set
bit-stays : (k a b : ℕ) → bit k a ≡ true → bit k (bit_or a b) ≡ true
bit-stays k a b h = bit-or k a b ∙ ap (λ (p : Bool). p || bit k b) h

module _ (map : List ℕ) (i : ℕ) where
  dirty-self : i / 8 < length map → is_dirty (set_dirty map i) i ≡ true
  dirty-self h =
      ap (bit (i % 8)) (get_or-set_same map (i / 8) (set_bit (i % 8) (get_or map (i / 8) 0)) 0 h) ∙ set_same (i % 8) (get_or map (i / 8) 0)

  -- the byte of j's bit, whether i's bit is in it or not
  dirty-kept : (j : ℕ) → i / 8 < length map → is_dirty map j ≡ true → is_dirty (set_dirty map i) j ≡ true
  dirty-kept j h m = by (eqb (j / 8) (i / 8)) refl
    where
      by : (b : Bool) → eqb (j / 8) (i / 8) ≡ b → is_dirty (set_dirty map i) j ≡ true
      by true e =
          let same : j / 8 ≡ i / 8 = eqb-true (j / 8) (i / 8) e in
          let here : get_or (set_dirty map i) (j / 8) 0 ≡ set_bit (i % 8) (get_or map (j / 8) 0) =
          rw same (get_or-set_same map (i / 8) (set_bit (i % 8) (get_or map (i / 8) 0)) 0 h) in
          ap (bit (j % 8)) here ∙ bit-stays (j % 8) (get_or map (j / 8) 0) (2 ^ (i % 8)) m
      by false e =
          ap (bit (j % 8)) (get_or-set_other map (i / 8) (j / 8) (set_bit (i % 8) (get_or map (i / 8) 0)) 0 (eqb-false (j / 8) (i / 8) e)) ∙ m

before : (p q : Bool) → (p ≡ true → q ≡ true) → q ≡ false → p ≡ false
before true q f e = sym (f refl) ∙ e
before false q f e = refl

-- Where none of these addresses is dirty after a write at i, none was before, and the memories agree on them.
pub none-dirty-before : (map vram : List ℕ) (i x : ℕ) (l : List ℕ) → i / 8 < length map → any_dirty (set_dirty map i) l ≡ false → (any_dirty map l ≡ false) × Agree l (set vram i x) vram
none-dirty-before map vram i x [] h n = (refl, tt)
none-dirty-before map vram i x (a ∷ l) h n =
    let both = neither (is_dirty (set_dirty map i) a) (any_dirty (set_dirty map i) l) n in
    let rest = none-dirty-before map vram i x l h both.1 in
    let was = before (is_dirty map a) (is_dirty (set_dirty map i) a) (dirty-kept map i a h) both.0 in
    let apart : a ≡ i → ⊥ = λ e. differ (sym (dirty-self map i h) ∙ ap (is_dirty (set_dirty map i)) (sym e) ∙ both.0) in
    (ap (λ (b : Bool). b || any_dirty map l) was ∙ rest.0, (get_or-set_other vram i a x 0 apart, rest.1))
