-- Descriptions that stay below a bound.
use Prim.Native.Nat.{ℕ, zero, suc, ◌+◌, ◌<◌}
use native.Mathlib.Omega.{arith}
use mathlib.Core.Path.{◌≡◌, refl}
use mathlib.Core.Bool.{Bool, true, false, cond}
use mathlib.Core.List.Memᴰ
use mathlib.Core.List.{List, ◌∷◌, Memᴰ}
use mathlib.Core.Logic.{⊎_elim}
use lib.ListN.{get_or}
use Rattle.chip.specs.State.{Bytes}
use Rattle.fetches.specs.Fetch.{Fetch, answer, fetch, fetched, followed, each}

module _ (n : ℕ) {A : Type 0} where
  -- Every address that a description fetches is below n, whatever bytes it finds.
  unfoldable pub Within : Fetch A → Type 0
  Within (answer a) = Unit {0}
  Within (fetch address next) = (address < n) × ((byte : ℕ) → byte < 256 → Within (next byte))

  -- So it is with each address fetched from a memory of bytes.
  pub fetched-within : (d : Fetch A) → Within d → (m : List ℕ) → Bytes m → (a : ℕ) → Memᴰ a (fetched d m) → a < n
  unfolding Within fetched
  fetched-within (answer x) w m bytes a is = absurd (Memᴰ.not-nil is)
  fetched-within (fetch i next) w m bytes a is =
      ⊎_elim (λ here. rw here w.0) (λ later. fetched-within (next (get_or m i 0)) (w.1 (get_or m i 0) (bytes i)) m bytes a later) (Memᴰ.cases_cons is)

  pub within-either : (b : Bool) (d e : Fetch A) → (b ≡ true → Within d) → (b ≡ false → Within e) → Within (cond b d e)
  within-either true d e f g = f refl
  within-either false d e f g = g refl

module _ (n : ℕ) {A B : Type 0} where
  pub within-followed : (d : Fetch A) (then : A → Fetch B) → Within n d → ((a : A) → Within n (then a)) → Within n (followed d then)
  unfolding Within followed
  within-followed (answer a) then w t = t a
  within-followed (fetch i next) then w t = (w.0, λ byte h. within-followed (next byte) then (w.1 byte h) t)

module _ (n : ℕ) {A : Type 0} (f : ℕ → Fetch A) where
  pub within-each : (i k : ℕ) → ((j : ℕ) → j < i + k → Within n (f j)) → Within n (each i k f)
  unfolding Within each
  within-each i zero w = tt
  within-each i (suc k) w =
      within-followed n (f i) (λ a. followed (each (suc i) k f) (λ l. answer (a ∷ l))) (w i (omega arith))
      (λ a. within-followed n (each (suc i) k f) (λ l. answer (a ∷ l)) (within-each (suc i) k (λ j h. w j (omega arith))) (λ l. tt))
