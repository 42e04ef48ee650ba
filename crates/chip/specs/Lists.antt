-- A list by its elements, and bytes put into a list.
use Rattle.std.specs.Prelude.{ℕ, zero, suc, ◌+◌, List, [], ◌∷◌, ◌++◌, length, take, drop}

-- f 0, f 1, .. f (n - 1)
unfoldable pub tabulate : ℕ → (ℕ → ℕ) → List ℕ
tabulate zero f = []
tabulate (suc n) f = f 0 ∷ tabulate n (λ i. f (suc i))

-- The list with bytes put in from place i on.
abbrev pub put_at : ℕ → List ℕ → List ℕ → List ℕ
put_at i bytes l = take i l ++ (bytes ++ drop (i + length bytes) l)
