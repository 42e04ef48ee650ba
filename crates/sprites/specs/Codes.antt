-- Sprites' numbers over codes of origins, as code paints them. Contracts of inner functions cite it; no promise of a call rests on it.
use Rattle.std.specs.Prelude.{ℕ, cond, List, [], ◌∷◌, ◌==◌}
use Rattle.planes.specs.Origin.{SpriteColour}

-- The number of the first sprite with a non-zero colour, or the code of what stands behind them all.
abbrev pub first_number : List SpriteColour → ℕ → ℕ
first_number [] behind = behind
first_number (s ∷ l) behind = cond (s.colour == 0) (first_number l behind) s.number
