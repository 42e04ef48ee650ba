-- Sprites drawn one by one, the last first.
use Rattle.std.proofs.Common.{◌≡◌, ℕ, suc, ◌+◌, ◌-◌, ◌<◌, ◌≤◌, Bool, true, false, cond, ◌&&◌, ◌||◌, eqb, List, [], ◌∷◌, ◌++◌, length, get_or, take, drop, sym, refl, ap, ◌∙◌, ap₂, arith, drop_of_length-le, length-drop, length-take-le, drop-cons, get_or-drop, get_or-take}
use Rattle.std.proofs.lemmas.List.{get_or_default}
use Rattle.chip.specs.Lists.{tabulate}
use Rattle.chip.specs.Ranges.{any_below}
use Rattle.chip.proofs.Laws.Lists.{tabulated, tabulate-same, get_d_tabulate}
use Rattle.chip.proofs.Laws.Ranges.{none-holds, any-or}
use Rattle.planes.specs.Pixel.{over, first_non_zero}
use Rattle.planes.specs.Origin.{in_front, frontmost}
use Rattle.planes.specs.declared.origin.Origin.TheVariants as origin
use Rattle.planes.specs.declared.origin.Pixel.{Pixel}
use Rattle.sprites.specs.Pixels.{visible, hits, sprite_colours, numbered_colours, any_hits, meet, reach, coincidence}
use Rattle.sprites.specs.Codes.{first_number}
use Rattle.sprites.specs.Held.{no_sprite, AsRead, Held}
use Rattle.sprites.specs.declared.sprite.Sprite.{Sprite}

-- where a sprite has a colour, it is its own
own-colour : (b : Bool) (colour old : ℕ) → cond (eqb (cond b colour 0) 0) old colour ≡ over (cond b colour 0) old
own-colour true colour old = refl
own-colour false colour old = refl

-- What stands after the sprites of a list are drawn over a line: the line, and whether two met.
pub record Over (r : List ℕ) (l : List Sprite) (old line : List ℕ) (met : Bool) : Type 0 where
  pub shown : line ≡ tabulate 256 (λ x. first_non_zero (sprite_colours r l (visible x)) (get_or old x 0))
  pub found : met ≡ coincidence r l

pub over_none : {r old : List ℕ} → length old ≡ 256 → Over r [] old old false
unfolding coincidence
over_none e =
    record {
      shown = tabulated e (λ i h. refl);
      found = sym (none-holds reach (λ c. false) (λ k h. refl));
    }

module _ {r : List ℕ} {l : List Sprite} {old line : List ℕ} {met : Bool} (o : Over r l old line met) where
  -- the next lower sprite
  pub over-one : (s : Sprite) {new : List ℕ} {m : Bool} → new ≡ tabulate 256 (λ x. cond (eqb (cond (hits r s (visible x)) s.colour 0) 0) (get_or line x 0) s.colour) → m ≡ any_below reach (λ c. hits r s c && any_hits r l c) → Over r (s ∷ l) old new (m || met)
  unfolding coincidence
  over-one s {new} {m} en em =
      record {
        shown = en ∙ tabulate-same 256 (λ x h. own-colour (hits r s (visible x)) s.colour (get_or line x 0) ∙ ap (over (cond (hits r s (visible x)) s.colour 0)) (line_at x h));
        found = ap₂ ◌||◌ em o.found ∙ sym (any-or reach (λ c. hits r s c && any_hits r l c) (λ c. meet r l c));
      }
    where
      line_at : (x : ℕ) → x < 256 → get_or line x 0 ≡ first_non_zero (sprite_colours r l (visible x)) (get_or old x 0)
      line_at x h = ap (λ (t : List ℕ). get_or t x 0) o.shown ∙ get_d_tabulate 256 _ x h

-- The last of some sprites is drawn first: the others over it.
pub last-number : (r : List ℕ) (l : List Sprite) (s : Sprite) (c behind : ℕ) → first_number (numbered_colours r (l ++ (s ∷ [])) c) behind ≡ first_number (numbered_colours r l c) (cond (eqb (cond (hits r s c) s.colour 0) 0) behind s.number)
last-number r [] s c behind = refl
last-number r (t ∷ l) s c behind = ap (λ (k : ℕ). cond (eqb (cond (hits r t c) t.colour 0) 0) k t.number) (last-number r l s c behind)

pub last-pixel : (r : List ℕ) (l : List Sprite) (s : Sprite) (c : ℕ) (behind : Pixel) → frontmost (numbered_colours r (l ++ (s ∷ [])) c) behind ≡ frontmost (numbered_colours r l c) (in_front (cond (hits r s c) s.colour 0) (origin.Sprite s.number) behind)
last-pixel r [] s c behind = refl
last-pixel r (t ∷ l) s c behind = ap (in_front (cond (hits r t c) t.colour 0) (origin.Sprite t.number)) (last-pixel r l s c behind)

-- the sprites from k - 1 on
pub one_lower : (sprites : List Sprite) (n k : ℕ) (d : Sprite) → 0 < k → k ≤ n → n ≤ length sprites → drop (k - 1) (take n sprites) ≡ get_or sprites (k - 1) d ∷ drop k (take n sprites)
one_lower sprites n k d pos le room =
    let long : length (take n sprites) ≡ n = length-take-le n sprites room in
    let step : suc (k - 1) ≡ k = omega arith in
    let at : get_or (take n sprites) (k - 1) d ≡ get_or sprites (k - 1) d = get_or-take n sprites (k - 1) d (omega arith) in
    drop-cons (take n sprites) (k - 1) d (omega arith) ∙ ap₂ (λ (s : Sprite) (m : ℕ). s ∷ drop m (take n sprites)) at step

pub none-higher : (sprites : List Sprite) (n : ℕ) → n ≤ length sprites → drop n (take n sprites) ≡ []
none-higher sprites n room = drop_of_length-le (take n sprites) {i = n} (omega (arith, length-take-le n sprites room))

-- each of those that a scan found, from k on
pub held-from : {r : List ℕ} {sprites : List Sprite} {drawn : ℕ} → Held r sprites drawn → (k j : ℕ) (d : Sprite) → j < length (drop k (take drawn sprites)) → AsRead r (get_or (drop k (take drawn sprites)) j d)
held-from {r} {sprites} {drawn} held k j d h =
    let long : length (take drawn sprites) ≡ drawn = length-take-le drawn sprites (omega (arith, held.room, held.few)) in
    let low : k + j < drawn = omega (arith, length-drop k (take drawn sprites)) in
    let same : get_or (drop k (take drawn sprites)) j d ≡ get_or sprites (k + j) no_sprite =
    get_or-drop k (take drawn sprites) j d ∙ get_or-take drawn sprites (k + j) d low ∙ get_or_default sprites (k + j) d no_sprite (omega (arith, held.room, held.few)) in
    rw same (held.as_read (k + j) (omega (arith, held.few)))
