-- Runs of a line by its chunks, and when two lines are the same.
use Prim.Native.Nat.{ℕ, zero, suc, ◌+◌, ◌-◌, ◌*◌, ◌≤◌, ◌<◌}
use native.Mathlib.Nat.{add-zero}
use native.Mathlib.Omega.{arith}
use native.Mathlib.Numerals.{add-one}
use mathlib.Core.Path.{◌≡◌, refl, ap, ap₂, sym, ◌∙◌}
use mathlib.Core.Bool.{Bool, true, false, cond, ◌&&◌}
use mathlib.Core.Logic.{◌↔◌}
use mathlib.Core.List.{List, [], ◌∷◌, ◌++◌, append-nil}
use lib.Dec.{eqb}
use lib.ListN.{length, length-append, get_or}
use lib.Pointwise.{pointwise}
use Rattle.chip.proofs.Laws.Ranges.{and_left, and_right}
use Rattle.text.specs.Lines.{run_text, runs_text}
use Rattle.text.proofs.Laws.Numbers.{length_run}
use Rattle.std.specs.List.{IsChunkByPrefix}
use Rattle.std.proofs.lemmas.Bool.{eqb-true}
use Rattle.std.proofs.lemmas.List.{get_or_append_left, get_or-append-add}
use Rattle.text.specs.Runs.{runs_after, runs, same}

-- a run of k times y goes on with x, whose colours are alike, and ends before t
chunk-after : (x t : List ℕ) (k y : ℕ) → ((i : ℕ) → i < length x → eqb (get_or (y ∷ x) i 0) (get_or x i 0) ≡ true)
    → (0 < length t → eqb (get_or (y ∷ x) (length x) 0) (get_or t 0 0) ≡ false)
    → runs_after eqb k y (x ++ t) ≡ record { count = k + length x; each = y } ∷ runs eqb t
unfolding runs_after runs
chunk-after [] [] k y alike apart = rw (add-zero k) refl
chunk-after [] (z ∷ t) k y alike apart = ap (λ (b : Bool). cond b (runs_after eqb (k + 1) y t) (record { count = k; each = y } ∷ runs_after eqb 1 z t)) (apart (omega arith)) ∙ ap (λ (n : ℕ). record { count = n; each = y } ∷ runs eqb (z ∷ t)) (omega arith)
chunk-after (z ∷ x) t k y alike apart =
    let e : y ≡ z = eqb-true y z (alike 0 (omega arith)) in
    let on = chunk-after x t (k + 1) y (λ i h. rw e (alike (suc i) (omega arith))) (rw e apart) in
    ap (λ (b : Bool). cond b (runs_after eqb (k + 1) y (x ++ t)) (record { count = k; each = y } ∷ runs_after eqb 1 z (x ++ t))) (alike 0 (omega arith))
    ∙ on
    ∙ ap (λ (n : ℕ). record { count = n; each = y } ∷ runs eqb t) (omega arith)

-- a chunk of a line is the first of its runs
pub chunk-first : (x t : List ℕ) → 0 < length x → IsChunkByPrefix eqb (x ++ t) (length x) → runs eqb (x ++ t) ≡ record { count = length x; each = get_or x 0 0 } ∷ runs eqb t
unfolding runs
chunk-first [] t some chunk = absurd (omega arith)
chunk-first (y ∷ x) t some chunk =
    let l : List ℕ = (y ∷ x) ++ t in
    let inside : (i : ℕ) → i < length (y ∷ x) → get_or l i 0 ≡ get_or (y ∷ x) i 0 = λ i h. get_or_append_left (y ∷ x) t 0 i h in
    let alike : (i : ℕ) → i < length x → eqb (get_or (y ∷ x) i 0) (get_or x i 0) ≡ true = λ i h.
    sym (ap₂ eqb (inside i (omega arith)) (ap (λ (k : ℕ). get_or l k 0) (add-one i) ∙ inside (suc i) (omega arith))) ∙ chunk.0 i 0 (omega arith) in
    let apart : 0 < length t → eqb (get_or (y ∷ x) (length x) 0) (get_or t 0 0) ≡ false = λ h.
    let last : length (y ∷ x) - 1 ≡ length x = omega arith in
    sym (ap₂ eqb
    (ap (λ (k : ℕ). get_or l k 0) last ∙ inside (length x) (omega arith))
    (ap (λ (k : ℕ). get_or l k 0) (sym (add-zero (length (y ∷ x)))) ∙ get_or-append-add (y ∷ x) t 0 0))
    ∙ chunk.1 (omega (arith, length-append (y ∷ x) t)) 0 in
    chunk-after x t 1 y alike apart ∙ ap (λ (n : ℕ). record { count = n; each = y } ∷ runs eqb t) (omega arith)

-- `==` of lines compares their colours one by one
pub pointwise_is_same : (a b : List ℕ) → pointwise eqb a b ≡ same a b
unfolding same
pointwise_is_same [] [] = refl
pointwise_is_same [] (y ∷ b) = refl
pointwise_is_same (x ∷ a) [] = refl
pointwise_is_same (x ∷ a) (y ∷ b) = ap (λ (t : Bool). eqb x y && t) (pointwise_is_same a b)

-- lines of one length are the same where they are at each place
same-at : (a b : List ℕ) → length a ≡ length b → same a b ≡ true → (i : ℕ) → i < length a → eqb (get_or a i 0) (get_or b i 0) ≡ true
unfolding same
same-at [] b e all i h = absurd (omega arith)
same-at (x ∷ a) [] e all i h = absurd (omega arith)
same-at (x ∷ a) (y ∷ b) e all zero h = and_left (eqb x y) (same a b) all
same-at (x ∷ a) (y ∷ b) e all (suc i) h = same-at a b (omega arith) (and_right (eqb x y) (same a b) all) i (omega arith)

same-all : (a b : List ℕ) → length a ≡ length b → ((i : ℕ) → i < length a → eqb (get_or a i 0) (get_or b i 0) ≡ true) → same a b ≡ true
unfolding same
same-all [] [] e each = refl
same-all [] (y ∷ b) e each = absurd (omega arith)
same-all (x ∷ a) [] e each = absurd (omega arith)
same-all (x ∷ a) (y ∷ b) e each = rw (each 0 (omega arith)) (same-all a b (omega arith) (λ i h. each (suc i) (omega arith)))

both-ways : (s t : Bool) → (s ≡ true → t ≡ true) → (t ≡ true → s ≡ true) → s ≡ t
both-ways true t f g = sym (f refl)
both-ways false true f g = g refl
both-ways false false f g = refl

pub each_is_same : {t : Bool} (a b : List ℕ) → length a ≡ length b → ((t ≡ true) ↔ ((i : ℕ) → i < length a → eqb (get_or a i 0) (get_or b i 0) ≡ true)) → t ≡ same a b
each_is_same {t} a b e each = both-ways t (same a b) (λ s. same-all a b e (each.0 s)) (λ s. each.1 (same-at a b e s))

pub same_each : {t : Bool} (a b : List ℕ) → length a ≡ length b → t ≡ pointwise eqb a b → ((t ≡ true) ↔ ((i : ℕ) → i < length a → eqb (get_or a i 0) (get_or b i 0) ≡ true))
same_each {t} a b e is =
    let whole : t ≡ same a b = is ∙ pointwise_is_same a b in
    (λ s. same-at a b e (sym whole ∙ s), λ each. whole ∙ same-all a b e each)

-- the text of a line's runs takes at most six characters for each column
length-after : (k y : ℕ) (l : List ℕ) → 1 ≤ k → length (runs_text (runs_after eqb k y l)) ≤ 6 * (k + length l)
unfolding runs_text runs_after
length-after k y [] some = rw (append-nil (run_text k y)) (omega (arith, length_run k y some))
length-after k y (x ∷ l) some = by (eqb y x) (length-after (k + 1) y l (omega arith)) (length-after 1 x l (omega arith))
  where
    by : (b : Bool) → length (runs_text (runs_after eqb (k + 1) y l)) ≤ 6 * (k + 1 + length l) → length (runs_text (runs_after eqb 1 x l)) ≤ 6 * (1 + length l) → length (runs_text (cond b (runs_after eqb (k + 1) y l) (record { count = k; each = y } ∷ runs_after eqb 1 x l))) ≤ 6 * (k + suc (length l))
    by true on over = omega arith
    by false on over = omega (arith, length-append (run_text k y) (runs_text (runs_after eqb 1 x l)), length_run k y some)

pub length_runs : (l : List ℕ) → length (runs_text (runs eqb l)) ≤ 6 * length l
unfolding runs_text runs
length_runs [] = omega arith
length_runs (x ∷ l) = omega (arith, length-after 1 x l (omega arith))
