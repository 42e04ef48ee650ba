-- What the notes of several lines say together.
use Rattle.std.specs.Prelude.{ℕ, ◌%◌, Bool, false, cond, ◌||◌, List, [], ◌∷◌, ◌≡◌, ltb}
use Rattle.chip.specs.Bits.{bit}

-- whether a note has a fifth sprite
abbrev pub has_fifth : ℕ → Bool
has_fifth note = ltb (note % 64) 32

-- whether p holds of one of the notes
unfoldable pub some : (ℕ → Bool) → List ℕ → Bool
some p [] = false
some p (n ∷ l) = p n || some p l

-- The first fifth sprite's number, or 32.
unfoldable pub first_fifth : List ℕ → ℕ
first_fifth [] = 32
first_fifth (n ∷ l) = cond (has_fifth n) (n % 64) (first_fifth l)

-- Bits 5 and 6 of j tell whether some line has a fifth sprite, and coincidence.
pub record Joined (l : List ℕ) (j : ℕ) : Type 0 where
  pub fifth : bit 5 j ≡ some has_fifth l
  pub met : bit 6 j ≡ some (bit 6) l
