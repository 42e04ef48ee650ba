-- Wide rows that are compared.
use Prim.Native.Nat.{ℕ, suc, ◌+◌, ◌-◌, ◌≤◌, ◌<◌}
use native.Mathlib.Decide.{dec_lt}
use native.Mathlib.Numerals.{add-one}
use native.Mathlib.Omega.{arith}
use mathlib.Core.Path.{◌≡◌, refl, sym, ap, ap₂, ◌∙◌}
use mathlib.Core.Bool.{Bool, true, false, ◌&&◌, ◌||◌}
use mathlib.Core.List.{List, [], ◌∷◌}
use borrow.Author.Tests.{leb-true, ltb-true, le-leb, lt-leb, lt-ltb, le-ltb}
use lib.Dec.{leb, ltb}
use lib.ListN.{length, get_or, take}
use lib.Seq.{length-take-le, get_or-take}
use Rattle.std.specs.List.{list_any}
use Rattle.chip.specs.Bits.{bit}
use Rattle.chip.specs.Ranges.{any_below}
use Rattle.chip.proofs.Laws.Ranges.{and-false, and_left, and_right, none-holds, one_holds, any-gives, any-is, any-first, any_same, any-or}
use Rattle.sprites.specs.Pixels.{visible, hits, any_hits, meet, reach, coincidence}
use Rattle.sprites.specs.Held.{no_sprite}
use Rattle.sprites.specs.declared.scan.Scan.{Scan}
use Rattle.sprites.specs.declared.sprite.Sprite.{Sprite}
use Rattle.sprites.proofs.Laws.Columns.{side-small, hits-left, hits-right}
use Rattle.sprites.proofs.Laws.Meet.{meets-none, meets-more}
use Rattle.blit.specs.declared.wide_sprite.WideSprite.{WideSprite}
use Rattle.blit.specs.Wide.{no_wide, WideRow, WideRows, shown_at, rows_meet, wides_meet, any_meet}

module _ (first row c : ℕ) where
  shown-left : c < first → shown_at first row c ≡ false
  unfolding shown_at
  shown-left h = rw (lt-leb _ _ h)

  shown-right : first + 32 ≤ c → shown_at first row c ≡ false
  unfolding shown_at
  shown-right h = rw (le-ltb _ _ h, and-false)

  shown-in : first ≤ c → c < first + 32 → shown_at first row c ≡ bit (31 - (c - first)) row
  unfolding shown_at
  shown-in low high = rw (le-leb _ _ low, lt-ltb _ _ high)

  -- where it has a set bit
  pub shown-low : shown_at first row c ≡ true → first ≤ c
  unfolding shown_at
  shown-low e = leb-true _ _ (and_left (leb first c) _ e)

  pub shown-high : shown_at first row c ≡ true → c < first + 32
  unfolding shown_at
  shown-high e = ltb-true _ _ (and_left (ltb c (first + 32)) _ (and_right (leb first c) _ e))

-- a sprite's wide row shows what the sprite does
pub shown : (r : List ℕ) (s : Sprite) (row : ℕ) → WideRow r s row → (c : ℕ) → shown_at s.first row c ≡ hits r s c
shown r s row wide c = by (dec_lt c s.first) (dec_lt c (s.first + 32))
  where
    by : Dec (c < s.first) → Dec (c < s.first + 32) → shown_at s.first row c ≡ hits r s c
    by (yes before) d = shown-left s.first row c before ∙ sym (hits-left r s c before)
    by (no after) (no beyond) =
        shown-right s.first row c (omega arith) ∙ sym (hits-right r s c (omega (arith, side-small r)))
    by (no after) (yes within) =
        let place : s.first + (c - s.first) ≡ c = omega arith in
        shown-in s.first row c (omega arith) within ∙ wide (c - s.first) (omega arith) ∙ ap (hits r s) place

-- the second begins d columns further right
module _ (f v g w d : ℕ) (apart : f + d ≡ g) where
  -- the first row at a column of the second
  row_at : (k : ℕ) → (ltb (k + d) 32 && bit (31 - (k + d)) v) ≡ shown_at f v (g + k)
  row_at k = by (dec_lt (k + d) 32)
    where
      by : Dec (k + d < 32) → (ltb (k + d) 32 && bit (31 - (k + d)) v) ≡ shown_at f v (g + k)
      by (yes i) =
          let place : k + d ≡ g + k - f = omega arith in
          rw (lt-ltb _ _ i) (ap (λ (j : ℕ). bit (31 - j) v) place ∙ sym (shown-in f v (g + k) (omega arith) (omega arith)))
      by (no o) =
          let past : 32 ≤ k + d = omega arith in
          rw (le-ltb _ _ past) (sym (shown-right f v (g + k) (omega arith)))

  own_at : (k : ℕ) → k < 32 → bit (31 - k) w ≡ shown_at g w (g + k)
  own_at k h =
      let place : k ≡ g + k - g = omega arith in
      ap (λ (j : ℕ). bit (31 - j) w) place ∙ sym (shown-in g w (g + k) (omega arith) (omega arith))

  abbrev both : ℕ → Bool
  both c = shown_at f v c && shown_at g w c

  -- the columns of the second row are all that both can reach
  pub two-rows : g ≤ visible 255 → any_below 32 (λ k. (ltb (k + d) 32 && bit (31 - (k + d)) v) && bit (31 - k) w) ≡ rows_meet f v g w
  unfolding rows_meet
  two-rows near =
      any_same 32 _ _ (λ k h. ap₂ ◌&&◌ (row_at k) (own_at k h))
      ∙ sym (any-is reach both (any_below 32 (λ k. both (g + k))) found back)
    where
      its : (c : ℕ) → both c ≡ true → shown_at g w c ≡ true
      its c e = and_right (shown_at f v c) (shown_at g w c) e

      found : (c : ℕ) → c < reach → both c ≡ true → any_below 32 (λ k. both (g + k)) ≡ true
      found c h e =
          let low : g ≤ c = shown-low g w c (its c e) in
          let place : g + (c - g) ≡ c = omega arith in
          one_holds 32 (λ k. both (g + k)) (c - g) (omega (arith, shown-high g w c (its c e))) (ap both place ∙ e)

      back : any_below 32 (λ k. both (g + k)) ≡ true → any_below reach both ≡ true
      back = any-gives 32 (λ k. both (g + k)) (any_below reach both) (λ k h e. one_holds reach both (g + k) (omega arith) e)

-- no number, and one more at the end
pub any_none : (p : ℕ → Bool) → any_below 0 p ≡ false
unfolding any_below
any_none p = refl

pub any-more : (n : ℕ) (p : ℕ → Bool) → any_below (n + 1) p ≡ (any_below n p || p n)
unfolding any_below
any-more n p = rw (add-one n)

-- a test of a list's elements, by their places
pub any-places : {A : Type 0} (p : A → Bool) (l : List A) (d : A) → list_any p l ≡ any_below (length l) (λ k. p (get_or l k d))
any-places p [] d = sym (any_none (λ k. p d))
any-places p (x ∷ l) d = ap (λ (b : Bool). p x || b) (any-places p l d) ∙ sym (any-first (length l) (λ k. p (get_or (x ∷ l) k d)))

-- and of those before a place
pub any-lower : {A : Type 0} (p : A → Bool) (l : List A) (k : ℕ) (d : A) → k ≤ length l → list_any p (take k l) ≡ any_below k (λ i. p (get_or l i d))
any-lower p l k d h =
    any-places p (take k l) d
    ∙ ap (λ (n : ℕ). any_below n (λ i. p (get_or (take k l) i d))) (length-take-le k l h)
    ∙ any_same k _ _ (λ i below. ap p (get_or-take k l i d below))

-- coincidence by the sprites' places: each sprite is compared with those before it
module _ (r : List ℕ) where
  abbrev pair : Sprite → Sprite → Bool
  pair s t = any_below reach (λ c. hits r s c && hits r t c)

  with-one : (s : Sprite) (l : List Sprite) → any_below (length l) (λ k. pair s (get_or l k no_sprite)) ≡ any_below reach (λ c. hits r s c && any_hits r l c)
  with-one s [] = any_none (λ k. pair s no_sprite) ∙ meets-none r s
  with-one s (t ∷ l) = any-first (length l) (λ k. pair s (get_or (t ∷ l) k no_sprite)) ∙ ap (λ (b : Bool). pair s t || b) (with-one s l) ∙ meets-more r s t l

  -- whether a sprite of a list meets one of those before it
  abbrev lower : List Sprite → ℕ → Bool
  lower l k = any_below k (λ i. pair (get_or l i no_sprite) (get_or l k no_sprite))

  by-places : (l : List Sprite) → any_below (length l) (lower l) ≡ coincidence r l
  unfolding coincidence
  by-places [] = any_none (lower []) ∙ sym (none-holds reach (λ c. false) (λ k h. refl))
  by-places (s ∷ l) =
      any-first (length l) (lower (s ∷ l))
      ∙ ap (λ (b : Bool). b || any_below (length l) (λ k. lower (s ∷ l) (suc k))) (any_none (λ i. pair (get_or (s ∷ l) i no_sprite) s))
      ∙ any_same (length l) _ _ (λ k h. any-first k (λ i. pair (get_or (s ∷ l) i no_sprite) (get_or l k no_sprite)))
      ∙ any-or (length l) (λ k. pair s (get_or l k no_sprite)) (lower l)
      ∙ ap₂ ◌||◌ (with-one s l) (by-places l)
      ∙ sym (any-or reach (λ c. hits r s c && any_hits r l c) (λ c. meet r l c))

-- a scan's sprites, compared by their rows
module _ (scan : Scan) (wides : List WideSprite) (wide : WideRows scan wides) where
  abbrev found : List Sprite
  found = take scan.drawn scan.sprites

  shown-at : (k c : ℕ) → k < scan.drawn → shown_at (get_or (take scan.drawn wides) k no_wide).sprite.first (get_or (take scan.drawn wides) k no_wide).row c ≡ hits scan.registers (get_or found k no_sprite) c
  shown-at k c h =
      let inside : k < 4 = omega arith in
      ap (λ (w : WideSprite). shown_at w.sprite.first w.row c) (get_or-take scan.drawn wides k no_wide h)
      ∙ ap (λ (s : Sprite). shown_at s.first (get_or wides k no_wide).row c) (wide.own k inside)
      ∙ shown scan.registers (get_or scan.sprites k no_sprite) (get_or wides k no_wide).row (wide.each k inside) c
      ∙ ap (λ (s : Sprite). hits scan.registers s c) (sym (get_or-take scan.drawn scan.sprites k no_sprite h))

  pub rows-coincide : any_meet (take scan.drawn wides) ≡ coincidence scan.registers found
  unfolding rows_meet
  rows-coincide =
      let long : length found ≡ scan.drawn = length-take-le scan.drawn scan.sprites (omega arith) in
      let many : length (take scan.drawn wides) ≡ scan.drawn = length-take-le scan.drawn wides (omega arith) in
      ap (λ (n : ℕ). any_below n (λ k. any_below k (λ i. wides_meet (get_or (take scan.drawn wides) i no_wide) (get_or (take scan.drawn wides) k no_wide)))) many
      ∙ any_same scan.drawn _ _ (λ k h. any_same k _ _ (λ i less. any_same reach _ _ (λ c _. ap₂ ◌&&◌ (shown-at i c (omega arith)) (shown-at k c h))))
      ∙ ap (λ (n : ℕ). any_below n (lower scan.registers found)) (sym long)
      ∙ by-places scan.registers found
