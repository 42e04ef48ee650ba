-- Fetches that are among others.
use Prim.Native.Nat.{ℕ, zero, suc, ◌+◌, ◌<◌}
use native.Mathlib.Nat.{add-zero, add-suc, suc-add, not-suc-le-zero, le_of_suc-le-suc}
use mathlib.Core.Path.{◌≡◌, sym, subst, ◌∙◌}
use mathlib.Core.List.Memᴰ
use mathlib.Core.List.{List, [], ◌∷◌, ◌++◌, Memᴰ}
use Rattle.fetches.specs.Fetch.{Fetch, fetched, each, Among}
use Rattle.fetches.proofs.Laws.{fetched-each}

-- one of the first list's, or of the second's
in-first : (a b : List ℕ) → Among a (a ++ b)
in-first [] b x is = absurd (Memᴰ.not-nil is)
in-first (y ∷ a) b x (Memᴰ.head e) = Memᴰ.head e
in-first (y ∷ a) b x (Memᴰ.tail is) = Memᴰ.tail (in-first a b x is)

in-second : (a b : List ℕ) → Among b (a ++ b)
in-second [] b x is = is
in-second (y ∷ a) b x is = Memᴰ.tail (in-second a b x is)

both-among : (a b l : List ℕ) → Among a l → Among b l → Among (a ++ b) l
both-among [] b l f g x is = g x is
both-among (y ∷ a) b l f g x (Memᴰ.head e) = f x (Memᴰ.head e)
both-among (y ∷ a) b l f g x (Memᴰ.tail is) = both-among a b l (λ z here. f z (Memᴰ.tail here)) g x is

-- two lists end to end, the first among another and the second the same
pub among-append : (a l b : List ℕ) → Among a l → Among (a ++ b) (l ++ b)
among-append a l b f = both-among a b (l ++ b) (λ x is. in-first l b x (f x is)) (in-second l b)

-- what one of a row of descriptions fetches is among what all of them fetch
module _ {A : Type 0} (f : ℕ → Fetch A) (m : List ℕ) where
  pub each-among : (i n k : ℕ) → k < n → Among (fetched (f (i + k)) m) (fetched (each i n f) m)
  each-among i zero k h = absurd (not-suc-le-zero h)
  each-among i (suc n) zero h = rw (fetched-each f m i n, add-zero) (in-first (fetched (f i) m) (fetched (each (suc i) n f) m))
  each-among i (suc n) (suc k) h =
      let later : i + suc k ≡ suc i + k = add-suc i k ∙ sym (suc-add i k) in
      rw (fetched-each f m i n)
      (λ x is.
      in-second (fetched (f i) m) (fetched (each (suc i) n f) m) x
      (each-among (suc i) n k (le_of_suc-le-suc h) x (subst (λ (j : ℕ). Memᴰ x (fetched (f j) m)) later is)))
