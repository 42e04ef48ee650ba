-- Sprites that have a set bit at the same column.
use Rattle.std.proofs.Common.{◌≡◌, ℕ, ◌+◌, ◌-◌, ◌*◌, ◌/◌, ◌%◌, ◌<◌, ◌≤◌, max, Bool, true, false, cond, ◌&&◌, ◌||◌, List, [], ◌∷◌, sym, refl, ap, ◌∙◌, arith}
use Rattle.std.specs.List.{list_any}
use native.Mathlib.Decide.{dec_lt}
use mathlib.Core.Bool.{and-or_distrib_left}
use Rattle.chip.specs.Modes.{large_sprites, magnified}
use Rattle.chip.specs.Ranges.{any_below}
use Rattle.chip.proofs.Laws.Ranges.{and-false, or-true, and_left, and_right, one_holds, none-holds, any-gives, any-is, any_same, any-or}
use Rattle.sprites.specs.Shape.{bit_width, side}
use Rattle.sprites.specs.Pixels.{visible, hits, any_hits, reach}
use Rattle.sprites.specs.declared.sprite.Sprite.{Sprite}
use Rattle.sprites.proofs.Laws.Columns.{side-small, halves, hit-low, hit-high}

-- whether q holds at a column of a row from start on, or of one from the next column on
abbrev two_rows : Bool → ℕ → (ℕ → Bool) → Bool
two_rows m start q = any_below 16 (λ k. q (start + k * cond m 2 1)) || any_below 16 (λ k. q (start + 1 + k * cond m 2 1))

module _ (m : Bool) (start : ℕ) (q : ℕ → Bool) where
  in-first : (k c : ℕ) → k < 16 → start + k * cond m 2 1 ≡ c → q c ≡ true → two_rows m start q ≡ true
  in-first k c few place e = ap (λ (t : Bool). t || any_below 16 (λ j. q (start + 1 + j * cond m 2 1))) (one_holds 16 (λ j. q (start + j * cond m 2 1)) k few (ap q place ∙ e))

  in-second : (k c : ℕ) → k < 16 → start + 1 + k * cond m 2 1 ≡ c → q c ≡ true → two_rows m start q ≡ true
  in-second k c few place e = ap (λ (t : Bool). any_below 16 (λ j. q (start + j * cond m 2 1)) || t) (one_holds 16 (λ j. q (start + 1 + j * cond m 2 1)) k few (ap q place ∙ e)) ∙ or-true (any_below 16 (λ j. q (start + j * cond m 2 1)))

-- every column of 16 bits from start on is in one of the two
in-two-rows : (m : Bool) (w start c : ℕ) (q : ℕ → Bool) → w ≤ 16 → start ≤ c → c < start + w * cond m 2 1 → q c ≡ true → two_rows m start q ≡ true
in-two-rows false w start c q few low high e = in-first false start q (c - start) c (omega arith) (omega arith) e
in-two-rows true w start c q few low high e = by (dec_lt ((c - start) % 2) 1)
  where
    by : Dec ((c - start) % 2 < 1) → two_rows true start q ≡ true
    by (yes even) = in-first true start q ((c - start) / 2) c (omega arith) (omega arith) e
    by (no odd) = in-second true start q ((c - start) / 2) c (omega arith) (omega arith) e

either : (s t u : Bool) → (s ≡ true → u ≡ true) → (t ≡ true → u ≡ true) → (s || t) ≡ true → u ≡ true
either true t u f g e = f refl
either false t u f g e = g e

module _ (r : List ℕ) (a b : Sprite) where
  -- both have a set bit at a column
  abbrev both : ℕ → Bool
  both c = hits r a c && hits r b c

  abbrev start : ℕ
  start = max a.first b.first

  -- the columns of the two rows are all that both can reach
  pub two-rows : a.first ≤ visible 255 → two_rows (magnified r) start both ≡ any_below reach both
  two-rows near = sym (any-is reach both (two_rows (magnified r) start both) found back)
    where
      of-a : (c : ℕ) → both c ≡ true → hits r a c ≡ true
      of-a c e = and_left (hits r a c) (hits r b c) e

      of-b : (c : ℕ) → both c ≡ true → hits r b c ≡ true
      of-b c e = and_right (hits r a c) (hits r b c) e

      found : (c : ℕ) → c < reach → both c ≡ true → two_rows (magnified r) start both ≡ true
      found c h e =
          let low : start ≤ c = omega (arith, hit-low r a c (of-a c e), hit-low r b c (of-b c e)) in
          let high : c < start + side r = omega (arith, hit-high r a c (of-a c e)) in
          in-two-rows (magnified r) (cond (large_sprites r) 16 8) start c both (halves (large_sprites r)) low high e

      reached : (c : ℕ) → both c ≡ true → any_below reach both ≡ true
      reached c e = one_holds reach both c (omega (arith, side-small r, hit-high r a c (of-a c e))) e

      back : two_rows (magnified r) start both ≡ true → any_below reach both ≡ true
      back e =
          either _ _ _
          (any-gives 16 (λ k. both (start + k * bit_width r)) (any_below reach both) (λ k h. reached (start + k * bit_width r)))
          (any-gives 16 (λ k. both (start + 1 + k * bit_width r)) (any_below reach both) (λ k h. reached (start + 1 + k * bit_width r)))
          e

module _ (r : List ℕ) (s : Sprite) where
  pub meets-none : false ≡ any_below reach (λ c. hits r s c && any_hits r [] c)
  meets-none = sym (none-holds reach _ (λ c h. and-false (hits r s c)))

  -- one sprite more
  pub meets-more : (t : Sprite) (l : List Sprite) → (any_below reach (λ c. hits r s c && hits r t c) || any_below reach (λ c. hits r s c && any_hits r l c)) ≡ any_below reach (λ c. hits r s c && any_hits r (t ∷ l) c)
  meets-more t l = sym (any_same reach _ _ (λ c h. and-or_distrib_left (hits r s c) (hits r t c) (any_hits r l c)) ∙ any-or reach (λ c. hits r s c && hits r t c) (λ c. hits r s c && any_hits r l c))

  pub meets-any : (l : List Sprite) → list_any (λ t. any_below reach (λ c. hits r s c && hits r t c)) l ≡ any_below reach (λ c. hits r s c && any_hits r l c)
  meets-any [] = meets-none
  meets-any (t ∷ l) = ap (λ (b : Bool). any_below reach (λ c. hits r s c && hits r t c) || b) (meets-any l) ∙ meets-more t l
