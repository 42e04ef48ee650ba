-- What settles a pixel's colour.
use Rattle.std.specs.Prelude.{ℕ, ◌%◌, cond, not, List, [], ◌∷◌, eqb}
use mir.Val.{bool_byte}
use Rattle.chip.specs.Modes.{external_video}
use Rattle.chip.specs.State.{register}

-- A colour in front of another: 0 is transparent, and the other shows.
abbrev pub over : ℕ → ℕ → ℕ
over front behind = cond (eqb front 0) behind front

-- The first non-zero colour of a list, or what stands behind them all.
abbrev pub first_non_zero : List ℕ → ℕ → ℕ
first_non_zero [] behind = behind
first_non_zero (c ∷ l) behind = over c (first_non_zero l behind)

-- Behind the pattern plane: the low nibble of register 7, and if that is 0 too, 1 with external video off and 0 with it on.
abbrev pub behind_planes : List ℕ → ℕ
behind_planes r = over (register 7 r % 16) (bool_byte (not (external_video r)))

-- A pixel's colour: the first non-zero of the sprites' colours, lowest number first, the pattern plane's, and what stands behind.
abbrev pub pixel_of : List ℕ → List ℕ → ℕ → ℕ
pixel_of r sprites plane = first_non_zero sprites (over plane (behind_planes r))
