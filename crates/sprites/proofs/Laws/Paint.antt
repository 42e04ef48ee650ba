-- A line that a loop goes over column by column, from 32 left of the screen, and what a sprite paints in a column.
use Rattle.std.proofs.Common.{◌≡◌, ℕ, ◌<◌, ◌≤◌, Bool, true, false, cond, eqb, List, length, get_or, sym, refl, ◌∙◌, arith, eq-eqb, ne_eqb}
use native.Mathlib.Decide.{dec_lt}
use Rattle.chip.specs.Lists.{tabulate}
use Rattle.chip.proofs.Laws.Lists.{tabulated}
use Rattle.sprites.specs.Pixels.{visible}

-- The visible columns before c became f's, and the others are as they were.
pub record Swept (new old : List ℕ) (f : ℕ → ℕ → ℕ) (c : ℕ) : Type 0 where
  pub long : length new ≡ 256
  pub done : (x : ℕ) → x < 256 → visible x < c → get_or new x 0 ≡ f x (get_or old x 0)
  pub rest : (x : ℕ) → x < 256 → c ≤ visible x → get_or new x 0 ≡ get_or old x 0

pub swept_none : {old : List ℕ} {f : ℕ → ℕ → ℕ} {c : ℕ} → length old ≡ 256 → ((x : ℕ) → visible x < c → (o : ℕ) → f x o ≡ o) → Swept old old f c
swept_none {old} e keeps = record { long = e; done = λ x h below. sym (keeps x below (get_or old x 0)); rest = λ x h above. refl }

pub swept_all : {new old : List ℕ} {f : ℕ → ℕ → ℕ} {c : ℕ} → ((x : ℕ) → x < 256 → c ≤ visible x → (o : ℕ) → f x o ≡ o) → Swept new old f c → new ≡ tabulate 256 (λ x. f x (get_or old x 0))
swept_all {new} {old} {f} {c} keeps s = tabulated s.long (λ x h. by x h (dec_lt (visible x) c))
  where
    by : (x : ℕ) → x < 256 → Dec (visible x < c) → get_or new x 0 ≡ f x (get_or old x 0)
    by x h (yes before) = s.done x h before
    by x h (no after) =
        let above : c ≤ visible x = omega arith in
        s.rest x h above ∙ sym (keeps x h above (get_or old x 0))

-- where the sprite has colour 0, and where it has another
pub clear-column : (b : Bool) (colour old value : ℕ) → colour ≡ 0 → old ≡ cond (eqb (cond b colour 0) 0) old value
clear-column true colour old value e = rw (eq-eqb colour 0 e)
clear-column false colour old value e = refl

pub coloured-column : (b : Bool) (colour old value : ℕ) → (colour ≡ 0 → ⊥) → cond b value old ≡ cond (eqb (cond b colour 0) 0) old value
coloured-column true colour old value n = rw (ne_eqb colour 0 n)
coloured-column false colour old value n = refl

pub ruleset painting = (tabulated, clear-column, coloured-column)
