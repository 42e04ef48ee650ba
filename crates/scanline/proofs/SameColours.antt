-- The colours are those of before: the colour of a pixel that is settled with its origin is the pixel's colour, for any sprites that
-- a scan found and any colour of the pattern plane; and no colour depends on a sprite's number.
use Prim.Native.Nat.{ℕ}
use mathlib.Core.Path.{◌≡◌, refl, ap, ◌∙◌}
use mathlib.Core.Bool.{cond}
use mathlib.Core.List.{List, [], ◌∷◌}
use Rattle.chip.specs.Modes.{mode_of}
use Rattle.planes.specs.Pixel.{pixel_of}
use Rattle.planes.specs.Plane.{plane_colour}
use Rattle.planes.proofs.SettledColour.{settled-colour}
use Rattle.sprites.specs.Scan.{Found}
use Rattle.sprites.specs.Pixels.{visible, hits, sprite_colours, numbered_colours}
use Rattle.sprites.specs.declared.sprite.Sprite.{Sprite}
use Rattle.sprites.proofs.Laws.Codes.{without-numbers}
use Rattle.scanline.specs.Line.{Row, settled, colour_at, settled_pixel, pixel_at}

pub same-colour : (r : List ℕ) (f : Found) (plane x : ℕ) → (settled_pixel r f plane x).colour ≡ settled r f plane x
same-colour r f plane x =
    settled-colour r (numbered_colours r f.sprites (visible x)) plane
    ∙ ap (λ (colours : List ℕ). pixel_of r colours plane) (without-numbers r f.sprites (visible x))

-- At every column of every line.
pub same-colour-at : (r : List ℕ) (row : Row) (x : ℕ) → (pixel_at r row x).colour ≡ colour_at r row x
unfolding colour_at pixel_at
same-colour-at r row x = same-colour r row.found (plane_colour (mode_of r) row.cells x) x

-- The sprites with other numbers.
abbrev pub renumbered : (Sprite → ℕ) → List Sprite → List Sprite
renumbered number [] = []
renumbered number (s ∷ l) = record { first = s.first; colour = s.colour; number = number s; bits = s.bits } ∷ renumbered number l

pub by-any-number : (r : List ℕ) (number : Sprite → ℕ) (sprites : List Sprite) (c : ℕ) → sprite_colours r (renumbered number sprites) c ≡ sprite_colours r sprites c
unfolding hits
by-any-number r number [] c = refl
by-any-number r number (s ∷ l) c = ap (λ (k : List ℕ). cond (hits r s c) s.colour 0 ∷ k) (by-any-number r number l c)
