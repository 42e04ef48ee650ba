-- A description of what is read: it fetches the byte at an address and goes on by what it found, until it has its answer.
-- What it answers and which addresses it fetches are both read off the one description, so that the two always agree.
use Rattle.std.specs.Prelude.{ℕ, zero, suc, ◌≡◌, Bool, false, ◌||◌, get_or}
use mathlib.Core.List.{List, [], ◌∷◌, Memᴰ}
use Rattle.chip.specs.Map.{is_dirty}

pub data Fetch (A : Type 0) : Type 0 where
  answer : A → Fetch A
  fetch : ℕ → (ℕ → Fetch A) → Fetch A

module _ {A : Type 0} where
  -- The answer at a memory.
  unfoldable pub value : Fetch A → List ℕ → A
  value (answer a) memory = a
  value (fetch address next) memory = value (next (get_or memory address 0)) memory

  -- The addresses fetched there, in order.
  unfoldable pub fetched : Fetch A → List ℕ → List ℕ
  fetched (answer a) memory = []
  fetched (fetch address next) memory = address ∷ fetched (next (get_or memory address 0)) memory

-- One description after another.
module _ {A B : Type 0} where
  unfoldable pub followed : Fetch A → (A → Fetch B) → Fetch B
  followed (answer a) then = then a
  followed (fetch address next) then = fetch address (λ byte. followed (next byte) then)

-- The descriptions f i, f (i + 1), .. of n numbers, and the list of their answers.
module _ {A : Type 0} where
  unfoldable pub each : ℕ → ℕ → (ℕ → Fetch A) → Fetch (List A)
  each i zero f = answer []
  each i (suc n) f = followed (f i) (λ a. followed (each (suc i) n f) (λ l. answer (a ∷ l)))

-- Two memories agree at these addresses.
abbrev pub Agree : List ℕ → List ℕ → List ℕ → Type 0
Agree [] m n = Unit {0}
Agree (a ∷ l) m n = (get_or m a 0 ≡ get_or n a 0) × Agree l m n

-- Each of these addresses is one of those.
abbrev pub Among : List ℕ → List ℕ → Type 0
Among these those = (a : ℕ) → Memᴰ a these → Memᴰ a those

-- Whether one of these addresses is dirty: the map has its bit.
abbrev pub any_dirty : List ℕ → List ℕ → Bool
any_dirty map [] = false
any_dirty map (a ∷ l) = is_dirty map a || any_dirty map l
