-- The colour that the step settles is the pixel's colour as defined without origins: so no colour depends on a sprite's number.
use Prim.Native.Nat.{ℕ}
use mathlib.Core.Path.{◌≡◌, refl, ap, ◌∙◌}
use mathlib.Core.List.{List, [], ◌∷◌}
use Rattle.planes.specs.Pixel.{over, first_non_zero, pixel_of}
use Rattle.planes.specs.Origin.{SpriteColour, in_front, frontmost, pixel_behind, settle, colours_in}
use Rattle.planes.specs.declared.origin.Origin.TheVariants.{Sprite, Pattern}
use Rattle.planes.specs.declared.origin.Pixel.{Pixel}
use Rattle.planes.proofs.Laws.Origin.{colour-in-front, colour-behind}

frontmost-colour : (sprites : List SpriteColour) (p : Pixel) → (frontmost sprites p).colour ≡ first_non_zero (colours_in sprites) p.colour
frontmost-colour [] p = refl
frontmost-colour (s ∷ l) p = colour-in-front s.colour (Sprite s.number) (frontmost l p) ∙ ap (over s.colour) (frontmost-colour l p)

pub settled-colour : (r : List ℕ) (sprites : List SpriteColour) (plane : ℕ) → (settle r sprites plane).colour ≡ pixel_of r (colours_in sprites) plane
settled-colour r sprites plane =
    frontmost-colour sprites (in_front plane Pattern (pixel_behind r))
    ∙ ap (first_non_zero (colours_in sprites)) (colour-in-front plane Pattern (pixel_behind r) ∙ ap (over plane) (colour-behind r))
