-- Laws of descriptions of what is read.
use Prim.Native.Nat.{ℕ, zero, suc, ◌+◌, ◌<◌}
use native.Mathlib.Nat.{add-zero, add-suc, suc-add, not-suc-le-zero, le_of_suc-le-suc}
use mathlib.Core.Path.{◌≡◌, refl, sym, ap, ◌∙◌}
use mathlib.Core.Bool.{Bool, true, false, ◌||◌}
use mathlib.Core.List.{List, [], ◌∷◌, ◌++◌, append-nil}
use lib.ListN.{get_or}
use Rattle.chip.specs.Map.{is_dirty}
use Rattle.fetches.specs.Fetch.{Fetch, answer, fetch, value, fetched, followed, each, Agree, any_dirty}

module _ {A : Type 0} where
  -- Memories that agree on the bytes fetched give the same answer ..
  pub same-value : (d : Fetch A) (m n : List ℕ) → Agree (fetched d m) m n → value d n ≡ value d m
  unfolding value fetched
  same-value (answer a) m n h = refl
  same-value (fetch i next) m n h = ap (λ (b : ℕ). value (next b) n) (sym h.0) ∙ same-value (next (get_or m i 0)) m n h.1

  -- .. and the same fetches.
  pub same-fetched : (d : Fetch A) (m n : List ℕ) → Agree (fetched d m) m n → fetched d n ≡ fetched d m
  unfolding value fetched
  same-fetched (answer a) m n h = refl
  same-fetched (fetch i next) m n h =
      ap (λ (l : List ℕ). i ∷ l) (ap (λ (b : ℕ). fetched (next b) n) (sym h.0) ∙ same-fetched (next (get_or m i 0)) m n h.1)

module _ {A B : Type 0} where
  pub value-followed : (d : Fetch A) (k : A → Fetch B) (m : List ℕ) → value (followed d k) m ≡ value (k (value d m)) m
  unfolding value followed
  value-followed (answer a) k m = refl
  value-followed (fetch i next) k m = value-followed (next (get_or m i 0)) k m

  pub fetched-followed : (d : Fetch A) (k : A → Fetch B) (m : List ℕ) → fetched (followed d k) m ≡ fetched d m ++ fetched (k (value d m)) m
  unfolding value fetched followed
  fetched-followed (answer a) k m = refl
  fetched-followed (fetch i next) k m = ap (λ (l : List ℕ). i ∷ l) (fetched-followed (next (get_or m i 0)) k m)

-- One description after another, and both answers joined.
module _ {A B C : Type 0} (d : Fetch A) (e : Fetch B) (joined : A → B → C) (m : List ℕ) where
  pub value-both : value (followed d λ a. followed e λ b. answer (joined a b)) m ≡ joined (value d m) (value e m)
  unfolding value
  value-both = value-followed d (λ a. followed e λ b. answer (joined a b)) m ∙ value-followed e (λ b. answer (joined (value d m) b)) m

  pub fetched-both : fetched (followed d λ a. followed e λ b. answer (joined a b)) m ≡ fetched d m ++ fetched e m
  unfolding fetched
  fetched-both =
      fetched-followed d (λ a. followed e λ b. answer (joined a b)) m
      ∙ ap (λ (l : List ℕ). fetched d m ++ l) (fetched-followed e (λ b. answer (joined (value d m) b)) m ∙ append-nil (fetched e m))

module _ {A : Type 0} (f : ℕ → Fetch A) (m : List ℕ) where
  -- the list of answers: its first, and the rest
  value-each : (i n : ℕ) → value (each i (suc n) f) m ≡ value (f i) m ∷ value (each (suc i) n f) m
  unfolding each value
  value-each i n =
      value-followed (f i) (λ a. followed (each (suc i) n f) (λ l. answer (a ∷ l))) m
      ∙ value-followed (each (suc i) n f) (λ l. answer (value (f i) m ∷ l)) m

  pub get_d-each : (i n k : ℕ) (d : A) → k < n → get_or (value (each i n f) m) k d ≡ value (f (i + k)) m
  get_d-each i zero k d h = absurd (not-suc-le-zero h)
  get_d-each i (suc n) zero d h = rw value-each (ap (λ (j : ℕ). value (f j) m) (sym (add-zero i)))
  get_d-each i (suc n) (suc k) d h =
      rw value-each (get_d-each (suc i) n k d (le_of_suc-le-suc h) ∙ ap (λ (j : ℕ). value (f j) m) (suc-add i k ∙ sym (add-suc i k)))

  pub fetched-each : (i n : ℕ) → fetched (each i (suc n) f) m ≡ fetched (f i) m ++ fetched (each (suc i) n f) m
  unfolding each value fetched
  fetched-each i n =
      fetched-followed (f i) (λ a. followed (each (suc i) n f) (λ l. answer (a ∷ l))) m
      ∙ ap (λ (l : List ℕ). fetched (f i) m ++ l) (fetched-followed (each (suc i) n f) (λ l. answer (value (f i) m ∷ l)) m ∙ append-nil (fetched (each (suc i) n f) m))

-- one of two lists' addresses is dirty where one of either's is
pub dirty-append : (map a b : List ℕ) → any_dirty map (a ++ b) ≡ (any_dirty map a || any_dirty map b)
dirty-append map [] b = refl
dirty-append map (x ∷ a) b = ap (λ (t : Bool). is_dirty map x || t) (dirty-append map a b) ∙ or_assoc (is_dirty map x) (any_dirty map a) (any_dirty map b)
  where
    or_assoc : (p q r : Bool) → (p || (q || r)) ≡ (p || q || r)
    or_assoc true q r = refl
    or_assoc false q r = refl
