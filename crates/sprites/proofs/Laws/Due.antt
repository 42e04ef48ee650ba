-- The fetches of a scan that goes on sprite by sprite.
use Rattle.std.proofs.Common.{◌≡◌, ℕ, suc, ◌+◌, ◌-◌, ◌<◌, Bool, true, false, cond, ◌&&◌, ◌||◌, eqb, List, ◌++◌, get_or, refl, ap, ◌∙◌, append-nil, add-one, arith, eq-eqb, ne_eqb}
use Rattle.chip.specs.Map.{is_dirty}
use Rattle.fetches.specs.Fetch.{answer, fetch, value, fetched, followed, any_dirty}
use Rattle.fetches.proofs.Laws.{fetched-followed, dirty-append}
use Rattle.chip.specs.Modes.{large_sprites}
use Rattle.chip.proofs.Laws.Ranges.{or-false}
use Rattle.sprites.specs.Shape.{covers}
use Rattle.sprites.specs.declared.sprite.Sprite.{Sprite}
use Rattle.sprites.specs.Scan.{attribute_address, sprite_pattern_address, sprite_of, found, seen, scan_from}

module _ (r : List ℕ) (l : ℕ) (vram map : List ℕ) where
  -- whether a byte is dirty that is fetched from sprite n on, when k are drawn
  abbrev pub rest_dirty : ℕ → ℕ → Bool
  rest_dirty n k = any_dirty map (fetched (scan_from r l (32 - n) n k) vram)

  abbrev y : ℕ → ℕ
  y n = get_or vram (attribute_address r n 0) 0

  pub at-end : (n k : ℕ) → n ≡ 32 → rest_dirty n k ≡ false
  unfolding fetched scan_from
  at-end n k e = rw e

  one : (n k : ℕ) → n < 32 → rest_dirty n k ≡ (is_dirty map (attribute_address r n 0) || any_dirty map (fetched (seen r l n k (y n) (scan_from r l (32 - (n + 1)) (n + 1))) vram))
  unfolding fetched scan_from
  one n k h =
      let e : 32 - n ≡ suc (32 - (n + 1)) = omega arith in
      rw (e, add-one)

  pub y-dirty : (n k : ℕ) → n < 32 → is_dirty map (attribute_address r n 0) ≡ true → rest_dirty n k ≡ true
  y-dirty n k h m = one n k h ∙ rw m

  module _ (n k : ℕ) (h : n < 32) (clean : is_dirty map (attribute_address r n 0) ≡ false) where
    pub at-terminator : eqb (y n) 208 ≡ true → rest_dirty n k ≡ false
    unfolding fetched
    at-terminator e = one n k h ∙ rw (clean, e)

    module _ (more : eqb (y n) 208 ≡ false) where
      pub not-covering : covers r l (y n) ≡ false → rest_dirty n k ≡ rest_dirty (n + 1) k
      not-covering c = one n k h ∙ rw (clean, more, c)

      pub at-fifth : covers r l (y n) ≡ true → k ≡ 4 → rest_dirty n k ≡ false
      unfolding fetched
      at-fifth c e = one n k h ∙ rw (clean, more, c, eq-eqb _ _ e)

      pub drawn : covers r l (y n) ≡ true → (k ≡ 4 → ⊥) → rest_dirty n k ≡ (any_dirty map (fetched (sprite_of r l n (y n)) vram) || rest_dirty (n + 1) (k + 1))
      unfolding fetched
      drawn c e =
          one n k h
          ∙ rw (clean, more, c, ne_eqb _ _ e, add-one k)
          (ap (any_dirty map)
          (fetched-followed (sprite_of r l n (y n)) (λ s. followed (scan_from r l (32 - (n + 1)) (n + 1) (suc k)) λ f. answer (found s f)) vram
          ∙ ap (λ (t : List ℕ). fetched (sprite_of r l n (y n)) vram ++ t)
          (fetched-followed (scan_from r l (32 - (n + 1)) (n + 1) (suc k)) (λ f. answer (found (value (sprite_of r l n (y n)) vram) f)) vram ∙ append-nil (fetched (scan_from r l (32 - (n + 1)) (n + 1) (suc k)) vram)))
          ∙ dirty-append map (fetched (sprite_of r l n (y n)) vram) (fetched (scan_from r l (32 - (n + 1)) (n + 1) (suc k)) vram))

  -- the bytes of one drawn sprite
  module _ (n y : ℕ) where
    abbrev pub at : ℕ
    at = sprite_pattern_address r l y (get_or vram (attribute_address r n 2) 0)

    second : (g : Bool) (f : ℕ → Sprite) (s : Sprite) → any_dirty map (fetched (cond g (fetch (at + 16) λ b. answer (f b)) (answer s)) vram) ≡ (g && is_dirty map (at + 16))
    unfolding fetched
    second true f s = or-false (is_dirty map (at + 16))
    second false f s = refl

    pub sprite-dirty : any_dirty map (fetched (sprite_of r l n y) vram) ≡ (is_dirty map (attribute_address r n 1) || (is_dirty map (attribute_address r n 2) || (is_dirty map (attribute_address r n 3) || (is_dirty map at || large_sprites r && is_dirty map (at + 16)))))
    unfolding fetched sprite_of
    sprite-dirty = ap (λ (b : Bool). is_dirty map (attribute_address r n 1) || (is_dirty map (attribute_address r n 2) || (is_dirty map (attribute_address r n 3) || (is_dirty map at || b)))) (second (large_sprites r) _ _)

-- what a scan's step does to the bytes that are dirty
pub ruleset steps = (at-end, y-dirty, at-terminator, not-covering, at-fifth, drawn)

-- which bytes a drawn sprite has
pub ruleset of_sprite = (sprite-dirty)
