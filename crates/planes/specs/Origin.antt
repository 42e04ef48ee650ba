-- The step that settles a pixel: its colour, and the origin of that.
use Rattle.std.specs.Prelude.{ℕ, ◌%◌, Bool, true, false, cond, List, [], ◌∷◌, eqb}
use Rattle.chip.specs.Modes.{external_video}
use Rattle.chip.specs.State.{register}
use Rattle.planes.specs.declared.origin.Origin.{Origin}
use Rattle.planes.specs.declared.origin.Origin.TheVariants.{Sprite, Pattern, Backdrop, Black, External}
use Rattle.planes.specs.declared.origin.Pixel.{Pixel}

-- The code of each origin. A sprite's is its number in the attribute table, 0 to 31: no scan finds another (`found_below`, in the
-- laws of sprites).
abbrev pub origin_code : Origin → ℕ
origin_code (Sprite n) = n
origin_code Pattern = 32
origin_code Backdrop = 33
origin_code Black = 34
origin_code External = 35

-- The colour that a sprite has at a column, 0 where it has no set bit, and the sprite's number.
pub record SpriteColour : Type 0 where
  pub number : ℕ
  pub colour : ℕ

-- A colour in front of a pixel: 0 is transparent, and the pixel behind shows, with its origin.
abbrev pub in_front : ℕ → Origin → Pixel → Pixel
in_front colour origin behind = cond (eqb colour 0) behind (record { colour = colour; origin = origin })

-- The first sprite with a non-zero colour, or what stands behind them all.
abbrev pub frontmost : List SpriteColour → Pixel → Pixel
frontmost [] behind = behind
frontmost (s ∷ l) behind = in_front s.colour (Sprite s.number) (frontmost l behind)

-- Behind a backdrop of colour 0: the external picture, written as colour 0, where external video is on, and black where it is off.
abbrev pub behind_backdrop : Bool → Pixel
behind_backdrop true = record { colour = 0; origin = External }
behind_backdrop false = record { colour = 1; origin = Black }

-- Behind the pattern plane: the backdrop, which has the low nibble of register 7 as its colour.
abbrev pub pixel_behind : List ℕ → Pixel
pixel_behind r = in_front (register 7 r % 16) Backdrop (behind_backdrop (external_video r))

-- The pixel that the sprites' colours, lowest number first, and the pattern plane's colour settle. Where the plane has no pattern,
-- as in Text's margins and on a blank line, its colour is 0. The pixel's colour is `pixel_of` (proofs/SettledColour.antt).
abbrev pub settle : List ℕ → List SpriteColour → ℕ → Pixel
settle r sprites plane = frontmost sprites (in_front plane Pattern (pixel_behind r))

-- The sprites' colours without their numbers.
abbrev pub colours_in : List SpriteColour → List ℕ
colours_in [] = []
colours_in (s ∷ l) = s.colour ∷ colours_in l
