-- A number as two bytes, the low one first.
use Rattle.std.specs.Prelude.{ℕ, ◌+◌, ◌*◌, ◌/◌, ◌%◌, List, [], ◌∷◌, get_or}

abbrev pub low_first : ℕ → List ℕ
low_first n = n % 256 ∷ n / 256 ∷ []

-- The number that the two bytes from place i on hold.
abbrev pub low_first_at : List ℕ → ℕ → ℕ
low_first_at l i = get_or l i 0 + 256 * get_or l (i + 1) 0
