-- The sets of all lines while sprites are put into them, from sprite 0 on.
use Rattle.std.proofs.Common.{◌≡◌, ℕ, suc, ◌+◌, ◌<◌, ◌≤◌, Bool, true, false, cond, not, ◌&&◌, eqb, ltb, ◌⊎◌, List, length, get_or, replicate, sym, refl, ap, ◌∙◌, ⊎_elim, add-one, arith, le-ltb, lt-ltb}
use native.Mathlib.Decide.{ℕ_discrete, dec_lt}
use lib.ListN.{length-replicate, get_or-replicate}
use Rattle.chip.specs.Bits.{bit, set_bit}
use Rattle.chip.specs.Ranges.{all_below}
use Rattle.chip.proofs.Laws.Bits.{bit-zero, set_same, set_other}
use Rattle.chip.proofs.Laws.Ranges.{and_both, and-false, one-fails, all_hold, each_holds}
use Rattle.sprites.specs.Shape.{covers}
use Rattle.sets.specs.Sets.{y_of, before_terminator, Sets}
use Rattle.sets.proofs.Laws.Added.{one_more}

-- none of the first n sprites is the terminator
abbrev pub no_terminator : List ℕ → List ℕ → ℕ → Bool
no_terminator r vram n = all_below n (λ m. not (eqb (y_of r vram m) 208))

-- one sprite more
pub none_more : (r vram : List ℕ) (n : ℕ) → no_terminator r vram n ≡ true → eqb (y_of r vram n) 208 ≡ false → no_terminator r vram (n + 1) ≡ true
none_more r vram n before here = rw add-one (and_both before (ap not here))

-- all of them are before the terminator
pub each-before : (r vram : List ℕ) (n : ℕ) → no_terminator r vram n ≡ true → (m : ℕ) → m < n → before_terminator r vram m ≡ true
unfolding before_terminator
each-before r vram n none m h =
    let p : ℕ → Bool = λ k. not (eqb (y_of r vram k) 208) in
    all_hold (suc m) p (λ k below. each_holds n p none k (omega arith))

-- and none from the terminator on
pub none-behind : (r vram : List ℕ) (n : ℕ) → eqb (y_of r vram n) 208 ≡ true → (m : ℕ) → n ≤ m → before_terminator r vram m ≡ false
unfolding before_terminator
none-behind r vram n here m h = one-fails (suc m) (λ k. not (eqb (y_of r vram k) 208)) n (omega arith) (ap not here)

-- The sets with the first n sprites in them, which are before the terminator.
pub record Begun (r vram sets : List ℕ) (n : ℕ) : Type 0 where
  pub up : n ≤ 32
  pub long : length sets ≡ 192
  pub none : no_terminator r vram n ≡ true
  pub line : (l : ℕ) → l < 192 → (m : ℕ) → bit m (get_or sets l 0) ≡ (ltb m n && covers r l (y_of r vram m))

pub begun-start : {r vram sets : List ℕ} → sets ≡ replicate 192 0 → Begun r vram sets 0
begun-start {r} {vram} {sets} e =
    record {
      up = omega arith;
      long = ap length e ∙ length-replicate {A = ℕ} 192 0;
      none = refl;
      line = λ l h m.
          ap (λ (s : List ℕ). bit m (get_or s l 0)) e
          ∙ ap (bit m) (get_or-replicate 192 l 0 0 h)
          ∙ bit-zero m
          ∙ ap (λ (b : Bool). b && covers r l (y_of r vram m)) (sym (le-ltb m 0 (omega arith)));
    }

module _ {r vram sets : List ℕ} {n : ℕ} (begun : Begun r vram sets n) where
  -- sprite n put into the sets of the lines that it covers
  pub begun_more : (new : List ℕ) → n < 32 → eqb (y_of r vram n) 208 ≡ false → length new ≡ 192 → ((l : ℕ) → l < 192 → get_or new l 0 ≡ cond (covers r l (y_of r vram n)) (set_bit n (get_or sets l 0)) (get_or sets l 0)) → Begun r vram new (n + 1)
  begun_more new h more long added =
      record { up = omega arith; long = long; none = none_more r vram n begun.none more; line = λ l low m. ap (bit m) (added l low) ∙ by l low m (covers r l (y_of r vram n)) refl (ℕ_discrete m n) }
    where
      was : (l : ℕ) → l < 192 → (m : ℕ) → (m ≡ n → ⊥) → bit m (get_or sets l 0) ≡ (ltb m (n + 1) && covers r l (y_of r vram m))
      was l low m other = begun.line l low m ∙ ap (λ (b : Bool). b && covers r l (y_of r vram m)) (one_more m n other)

      by : (l : ℕ) → l < 192 → (m : ℕ) (c : Bool) → covers r l (y_of r vram n) ≡ c → Dec (m ≡ n) → bit m (cond c (set_bit n (get_or sets l 0)) (get_or sets l 0)) ≡ (ltb m (n + 1) && covers r l (y_of r vram m))
      by l low m true e (yes same) = rw same (set_same n (get_or sets l 0) ∙ sym (and_both (lt-ltb n (n + 1) (omega arith)) e))
      by l low m false e (yes same) =
          rw same (begun.line l low n ∙ ap (λ (b : Bool). b && covers r l (y_of r vram n)) (le-ltb n n (omega arith)) ∙ sym (ap (λ (b : Bool). ltb n (n + 1) && b) e ∙ and-false (ltb n (n + 1))))
      by l low m true e (no other) = set_other m n (get_or sets l 0) other ∙ was l low m other
      by l low m false e (no other) = was l low m other

  -- all sprites are seen, or the next is the terminator
  ended : (n ≡ 32) ⊎ (eqb (y_of r vram n) 208 ≡ true) → (m : ℕ) → m < 32 → before_terminator r vram m ≡ ltb m n
  ended end m h = by (dec_lt m n)
    where
      by : Dec (m < n) → before_terminator r vram m ≡ ltb m n
      by (yes below) = each-before r vram n begun.none m below ∙ sym (lt-ltb m n below)
      by (no above) =
          let behind : n ≤ m = omega arith in
          ⊎_elim (λ all. absurd (omega arith)) (λ here. none-behind r vram n here m behind) end ∙ sym (le-ltb m n behind)

  pub begun-end : (n ≡ 32) ⊎ (eqb (y_of r vram n) 208 ≡ true) → Sets r vram sets
  begun-end end = record { long = begun.long; line = λ l low m h. begun.line l low m ∙ ap (λ (b : Bool). b && covers r l (y_of r vram m)) (sym (ended end m h)) }

pub ruleset ends = (begun-end)
