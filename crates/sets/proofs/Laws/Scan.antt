-- A line's scan by its set.
use Rattle.std.proofs.Common.{◌≡◌, ℕ, zero, suc, ◌+◌, ◌-◌, ◌^◌, ◌<◌, ◌≤◌, Bool, true, false, not, ◌&&◌, eqb, List, [], take, set, sym, refl, ap, ◌∙◌, lt_of_le_of_lt, add-one, arith}
use native.Mathlib.Decide.{dec_lt}
use borrow.Author.Tests.{not-true}
use lib.Bits.{bit_and, and_le_l}
use Rattle.chip.specs.Bits.{bit}
use Rattle.chip.proofs.Laws.Bits.{bit-zero}
use Rattle.chip.proofs.Laws.Ranges.{and_left, and_right, each_holds}
use Rattle.chip.proofs.Laws.Refusals.{differ}
use Rattle.fetches.specs.Fetch.{value}
use Rattle.sprites.specs.Shape.{covers}
use Rattle.sprites.specs.Scan.{Found, scan_of, sprite_of, fifth_of}
use Rattle.sprites.specs.Held.{AsRead, Held}
use Rattle.sprites.specs.declared.scan.Ended.{Ended}
use Rattle.sprites.specs.declared.scan.Ended.TheVariants.{Terminator, Fifth, All}
use Rattle.sprites.specs.declared.sprite.Sprite.{Sprite}
use Rattle.sprites.proofs.Laws.Scan as scan
use Rattle.sprites.proofs.Laws.Scan.{rest, Going, going_on, going-draw, going_end}
use Rattle.sets.specs.Sets.{y_of, before_terminator, IsSet, FoundBySet}
use Rattle.sets.proofs.Laws.Bits.{Lowest, lowest_set, lowest-below, cleared, kept}
use Rattle.sets.proofs.Laws.Sets.{no_terminator, none_more, each-before}

-- A scan under way: what becomes of the first n sprites is settled, and of the others those are left that the set has.
pub record Settled (r vram : List ℕ) (l all : ℕ) (sprites : List Sprite) (drawn left : ℕ) : Type 0 where
  pub n : ℕ
  pub going : Going r l vram sprites drawn n
  pub none : no_terminator r vram n ≡ true
  pub small : left < 2 ^ 32
  pub done : (m : ℕ) → m < n → bit m left ≡ false
  pub to-come : (m : ℕ) → n ≤ m → bit m left ≡ bit m all

-- a scan's result, where another end has the same fifth sprite
found-by : {r : List ℕ} {sprites : List Sprite} {drawn : ℕ} {e : Ended} {f : Found} (held : Held r sprites drawn) → f ≡ record { sprites = take drawn sprites; ended = e } → (e' : Ended) → fifth_of e' ≡ fifth_of e → FoundBySet r (record { registers = r; sprites = sprites; drawn = drawn; ended = e'; held = held }) f
found-by held whole e' same =
    record {
      registers = refl;
      sprites = sym (ap (λ (f : Found). f.sprites) whole);
      fifth = same ∙ sym (ap (λ (f : Found). fifth_of f.ended) whole);
    }

no-terminator : (r vram : List ℕ) (n m : ℕ) → no_terminator r vram n ≡ true → m < n → eqb (y_of r vram m) 208 ≡ false
no-terminator r vram n m none h = not-true (eqb (y_of r vram m) 208) (each_holds n (λ k. not (eqb (y_of r vram k) 208)) none m h)

module _ (r vram : List ℕ) (l all : ℕ) (is_set : IsSet r vram l all) where
  -- a sprite in the set
  covering : (m : ℕ) → m < 32 → bit m all ≡ true → covers r l (y_of r vram m) ≡ true
  covering m h e = and_right (before_terminator r vram m) (covers r l (y_of r vram m)) (sym (is_set m h) ∙ e)

  before : (m : ℕ) → m < 32 → bit m all ≡ true → no_terminator r vram (m + 1) ≡ true
  unfolding before_terminator
  before m h e = rw add-one (and_left (before_terminator r vram m) (covers r l (y_of r vram m)) (sym (is_set m h) ∙ e))

  -- one before the terminator that is not in it
  not_in : (n m : ℕ) → no_terminator r vram n ≡ true → m < n → m < 32 → bit m all ≡ false → covers r l (y_of r vram m) ≡ false
  not_in n m none h low e = ap (λ (b : Bool). b && covers r l (y_of r vram m)) (sym (each-before r vram n none m h)) ∙ sym (is_set m low) ∙ e

  -- the sprites before t are before the terminator, and from n on not in the set
  passed : {sprites : List Sprite} {drawn : ℕ} (t : ℕ) → no_terminator r vram (t + 1) ≡ true → t ≤ 32 → (d n : ℕ) → n + d ≡ t → ((m : ℕ) → n ≤ m → m < t → bit m all ≡ false) → Going r l vram sprites drawn n → Going r l vram sprites drawn t
  passed t none up zero n e out going = let same : n ≡ t = omega arith in rw same at going
  passed {drawn = drawn} t none up (suc d) n e out going =
      let low : n < 32 = omega arith in
      let here : n < t + 1 = omega arith in
      passed t none up d (n + 1) (omega arith) (λ m h below. out m (omega arith) below)
      (going_on going low (scan.not-covering r l vram n drawn low (no-terminator r vram (t + 1) n none here) (not_in (t + 1) n none here low (out n (omega arith) (omega arith)))))

  -- no sprite from n on is in the set: the scan finds none
  nothing : (k d n : ℕ) → n + d ≡ 32 → no_terminator r vram n ≡ true → ((m : ℕ) → n ≤ m → bit m all ≡ false) → (e : Ended) × (rest r l vram n k ≡ record { sprites = []; ended = e }) × (fifth_of e ≡ 32)
  nothing k zero n e none out = (All, scan.at-end r l vram n k (omega arith), refl)
  nothing k (suc d) n e none out = by (eqb (y_of r vram n) 208) refl (λ (more : eqb (y_of r vram n) 208 ≡ false). nothing k d (n + 1) (omega arith) (none_more r vram n none more) (λ m h. out m (omega arith)))
    where
      low : n < 32
      low = omega arith

      by : (b : Bool) → eqb (y_of r vram n) 208 ≡ b → (eqb (y_of r vram n) 208 ≡ false → (e : Ended) × (rest r l vram (n + 1) k ≡ record { sprites = []; ended = e }) × (fifth_of e ≡ 32)) → (e : Ended) × (rest r l vram n k ≡ record { sprites = []; ended = e }) × (fifth_of e ≡ 32)
      by true here later = (Terminator, scan.at-terminator r l vram n k low here, refl)
      by false more later =
          let found = later more in
          let away = not_in (n + 1) n (none_more r vram n none more) (omega arith) low (out n (omega arith)) in
          (found.0, scan.not-covering r l vram n k low more away ∙ found.1, found.2)

  module _ {sprites : List Sprite} {drawn left : ℕ} (s : Settled r vram l all sprites drawn left) where
    -- none is left
    pub settled-none : (held : Held r sprites drawn) → left ≡ 0 → FoundBySet r (record { registers = r; sprites = sprites; drawn = drawn; ended = All; held = held }) (value (scan_of r l) vram)
    settled-none held e =
        let up = s.going.up in
        let none = nothing drawn (32 - s.n) s.n (omega arith) s.none (λ m h. sym (s.to-come m h) ∙ ap (bit m) e ∙ bit-zero m) in
        found-by held (going_end s.going none.0 none.1) All (sym none.2)

    -- sprite t is the next in the set
    module _ {t : ℕ} (low : Lowest left t) (small : t < 32) where
      not_done : s.n ≤ t
      not_done = by (dec_lt t s.n)
        where
          by : Dec (t < s.n) → s.n ≤ t
          by (yes below) = absurd (differ (sym (lowest_set low) ∙ s.done t below))
          by (no above) = omega arith

      in-set : bit t all ≡ true
      in-set = sym (s.to-come t not_done) ∙ lowest_set low

      abbrev none-through : no_terminator r vram (t + 1) ≡ true
      none-through = before t small in-set

      pub next-covers : covers r l (y_of r vram t) ≡ true
      next-covers = covering t small in-set

      not_last : eqb (y_of r vram t) 208 ≡ false
      not_last = no-terminator r vram (t + 1) t none-through (omega arith)

      there : Going r l vram sprites drawn t
      there =
          let after = not_done in
          passed t none-through (omega arith) (t - s.n) s.n (omega arith) (λ m h below. sym (s.to-come m h) ∙ lowest-below low m below) s.going

      pub settled-fifth : (held : Held r sprites drawn) → drawn ≡ 4 → FoundBySet r (record { registers = r; sprites = sprites; drawn = drawn; ended = Fifth t; held = held }) (value (scan_of r l) vram)
      settled-fifth held four = found-by held (going_end there (Fifth t) (scan.at-fifth r l vram t drawn small not_last next-covers four)) (Fifth t) refl

      pub settled-draw : (new : Sprite) → new ≡ value (sprite_of r l t (y_of r vram t)) vram → AsRead r new → drawn < 4 → Settled r vram l all (set sprites drawn new) (drawn + 1) (bit_and left (left - 1))
      settled-draw new e read few =
          record {
            n = t + 1;
            going = going-draw there new read small few (rw e (scan.drawn r l vram t drawn small not_last next-covers (λ four. omega arith)));
            none = none-through;
            small = lt_of_le_of_lt (and_le_l left (left - 1)) s.small;
            done = λ m h. cleared low m (omega arith);
            to-come = λ m h. kept low m (omega arith) ∙ s.to-come m (omega (arith, not_done));
          }

-- By an empty set no sprite is found.
pub empty-set : (r vram : List ℕ) (l : ℕ) → IsSet r vram l 0 → ((value (scan_of r l) vram).sprites ≡ []) × (fifth_of (value (scan_of r l) vram).ended ≡ 32)
empty-set r vram l is_set =
    let none = nothing r vram l 0 is_set 0 32 0 refl refl (λ m h. bit-zero m) in
    (ap (λ (f : Found). f.sprites) none.1, ap (λ (f : Found). fifth_of f.ended) none.1 ∙ none.2)
