-- A scan that goes on sprite by sprite.
use Rattle.std.proofs.Common.{◌≡◌, ℕ, suc, ◌+◌, ◌-◌, ◌<◌, ◌≤◌, true, false, eqb, List, [], ◌∷◌, ◌++◌, length, get_or, take, set, replicate, sym, refl, ap, ◌∙◌, append_assoc, append-nil, add-one, arith, length-set, get_or-set_other, get_or-set_same, take-suc-set, eq-eqb, ne_eqb}
use native.Mathlib.Decide.{ℕ_discrete}
use lib.ListN.{length-replicate, get_or-replicate}
use Rattle.fetches.specs.Fetch.{answer, value, followed}
use Rattle.fetches.proofs.Laws.{value-followed}
use Rattle.sprites.specs.Shape.{covers}
use Rattle.sprites.specs.Scan.{attribute_address, sprite_of, Found, found, seen, scan_from, scan_of}
use Rattle.sprites.specs.Held.{no_sprite, AsRead, Held}
use Rattle.sprites.specs.declared.scan.Ended.{Ended}
use Rattle.sprites.specs.declared.scan.Ended.TheVariants.{Terminator, Fifth, All}
use Rattle.sprites.specs.declared.sprite.Sprite.{Sprite}

module _ (r : List ℕ) (l : ℕ) (vram : List ℕ) where
  -- what is found from sprite n on, when k are drawn
  abbrev pub rest : ℕ → ℕ → Found
  rest n k = value (scan_from r l (32 - n) n k) vram

  abbrev y : ℕ → ℕ
  y n = get_or vram (attribute_address r n 0) 0

  pub at-end : (n k : ℕ) → n ≡ 32 → rest n k ≡ record { sprites = []; ended = All }
  unfolding value scan_from
  at-end n k e = rw e

  one : (n k : ℕ) → n < 32 → rest n k ≡ value (seen r l n k (y n) (scan_from r l (32 - (n + 1)) (n + 1))) vram
  unfolding value scan_from
  one n k h =
      let e : 32 - n ≡ suc (32 - (n + 1)) = omega arith in
      rw (e, add-one)

  pub at-terminator : (n k : ℕ) → n < 32 → eqb (y n) 208 ≡ true → rest n k ≡ record { sprites = []; ended = Terminator }
  unfolding value
  at-terminator n k h e = one n k h ∙ rw e

  module _ (n k : ℕ) (h : n < 32) (more : eqb (y n) 208 ≡ false) where
    pub not-covering : covers r l (y n) ≡ false → rest n k ≡ rest (n + 1) k
    not-covering c = one n k h ∙ rw (more, c)

    pub at-fifth : covers r l (y n) ≡ true → k ≡ 4 → rest n k ≡ record { sprites = []; ended = Fifth n }
    unfolding value
    at-fifth c e = one n k h ∙ rw (more, c, eq-eqb _ _ e)

    pub drawn : covers r l (y n) ≡ true → (k ≡ 4 → ⊥) → rest n k ≡ found (value (sprite_of r l n (y n)) vram) (rest (n + 1) (k + 1))
    unfolding value
    drawn c e =
        one n k h
        ∙ rw (more, c, ne_eqb _ _ e, add-one k)
        (value-followed (sprite_of r l n (y n)) (λ s. followed (scan_from r l (32 - (n + 1)) (n + 1) (suc k)) λ f. answer (found s f)) vram
        ∙ value-followed (scan_from r l (32 - (n + 1)) (n + 1) (suc k)) (λ f. answer (found (value (sprite_of r l n (y n)) vram) f)) vram)

-- sprites that were found before
abbrev pub after : List Sprite → Found → Found
after s f = record { sprites = s ++ f.sprites; ended = f.ended }

after_one : (a : List Sprite) (s : Sprite) (f : Found) → after (a ++ (s ∷ [])) f ≡ after a (found s f)
after_one a s f = λ i. record { sprites = append_assoc a (s ∷ []) f.sprites i; ended = f.ended }

-- one sprite more in the array
pub one_more : (a : List Sprite) (k : ℕ) (s : Sprite) → k < length a → take (k + 1) (set a k s) ≡ take k a ++ (s ∷ [])
one_more a k s h = rw add-one (take-suc-set a k s h)

-- A scan under way: n sprites were seen and drawn of them stand in the array; what is found in all is those and the rest.
pub record Going (r : List ℕ) (l : ℕ) (vram : List ℕ) (sprites : List Sprite) (drawn n : ℕ) : Type 0 where
  pub held : Held r sprites drawn
  pub up : n ≤ 32
  pub all : value (scan_of r l) vram ≡ after (take drawn sprites) (rest r l vram n drawn)

pub going_start : {r : List ℕ} {l : ℕ} {vram : List ℕ} {sprites : List Sprite} → sprites ≡ replicate 4 no_sprite → Going r l vram sprites 0 0
going_start e =
    record {
      held =
          record {
            room = ap length e ∙ length-replicate {A = Sprite} 4 no_sprite;
            few = omega arith;
            as_read = λ k h. rw (e, get_or-replicate 4 k no_sprite no_sprite h) (record { near = omega arith; left_half = λ _. refl });
          };
      up = omega arith;
      all = refl;
    }

as-read-set : (r : List ℕ) (sprites : List Sprite) (i : ℕ) (s : Sprite) → i < length sprites → AsRead r s → ((k : ℕ) → k < 4 → AsRead r (get_or sprites k no_sprite)) → (k : ℕ) → k < 4 → AsRead r (get_or (set sprites i s) k no_sprite)
as-read-set r sprites i s room new old k h = by (ℕ_discrete k i)
  where
    by : Dec (k ≡ i) → AsRead r (get_or (set sprites i s) k no_sprite)
    by (yes same) = rw (same, get_or-set_same sprites i s no_sprite room) new
    by (no other) = rw (get_or-set_other sprites i k s no_sprite other) (old k h)

module _ {r : List ℕ} {l : ℕ} {vram : List ℕ} {sprites : List Sprite} {drawn n : ℕ} (g : Going r l vram sprites drawn n) where
  -- sprite n does not cover the line
  pub going_on : n < 32 → rest r l vram n drawn ≡ rest r l vram (n + 1) drawn → Going r l vram sprites drawn (n + 1)
  going_on h e = record { held = g.held; up = omega arith; all = g.all ∙ ap (after (take drawn sprites)) e }

  -- it does, and is drawn
  pub going-draw : (s : Sprite) → AsRead r s → n < 32 → drawn < 4 → rest r l vram n drawn ≡ found s (rest r l vram (n + 1) (drawn + 1)) → Going r l vram (set sprites drawn s) (drawn + 1) (n + 1)
  going-draw s read h few e =
      record {
        held =
            record {
              room = length-set sprites drawn s ∙ g.held.room;
              few = omega arith;
              as_read = as-read-set r sprites drawn s (rw g.held.room few) read g.held.as_read;
            };
        up = omega arith;
        all =
            g.all
            ∙ ap (after (take drawn sprites)) e
            ∙ sym (after_one (take drawn sprites) s (rest r l vram (n + 1) (drawn + 1)))
            ∙ ap (λ (a : List Sprite). after a (rest r l vram (n + 1) (drawn + 1))) (sym (one_more sprites drawn s (rw g.held.room few)));
      }

  -- the scan ends
  pub going_end : (e : Ended) → rest r l vram n drawn ≡ record { sprites = []; ended = e } → value (scan_of r l) vram ≡ record { sprites = take drawn sprites; ended = e }
  going_end e stop = g.all ∙ ap (after (take drawn sprites)) stop ∙ λ i. record { sprites = append-nil (take drawn sprites) i; ended = e }

  pub all-found : (rest r l vram n drawn).sprites ≡ [] → take drawn sprites ≡ (value (scan_of r l) vram).sprites
  all-found none = sym (ap (λ (f : Found). f.sprites) g.all ∙ ap (λ (f : List Sprite). take drawn sprites ++ f) none ∙ append-nil (take drawn sprites))

-- what a scan's step finds
pub ruleset steps = (at-end, at-terminator, not-covering, at-fifth, drawn, all-found)
