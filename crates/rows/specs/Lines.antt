-- One line, as it is painted from the left.
use Rattle.std.specs.Prelude.{ℕ, ◌<◌, ◌≡◌, List, length, get_or}

-- The columns before at have their colour. Of the others nothing is said: they are painted later.
pub record LineSettled (line : List ℕ) (colour : ℕ → ℕ) (at : ℕ) : Type 0 where
  pub long : length line ≡ 256
  pub done : (x : ℕ) → x < at → get_or line x 0 ≡ colour x
