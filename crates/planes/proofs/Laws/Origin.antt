-- The colours of pixels in front of one another.
use Prim.Native.Nat.{ℕ, ◌%◌}
use mathlib.Core.Path.{◌≡◌, refl, ap, ◌∙◌}
use mathlib.Core.Bool.{Bool, true, false, cond, not}
use mathlib.Core.List.{List}
use lib.Dec.{eqb}
use mir.Val.{bool_byte}
use Rattle.chip.specs.Modes.{external_video}
use Rattle.chip.specs.State.{register}
use Rattle.planes.specs.Pixel.{over, behind_planes}
use Rattle.planes.specs.Origin.{in_front, behind_backdrop, pixel_behind}
use Rattle.planes.specs.declared.origin.Origin.{Origin}
use Rattle.planes.specs.declared.origin.Origin.TheVariants.{Backdrop}
use Rattle.planes.specs.declared.origin.Pixel.{Pixel}

pub colour-in-front : (c : ℕ) (o : Origin) (p : Pixel) → (in_front c o p).colour ≡ over c p.colour
colour-in-front c o p = by (eqb c 0)
  where
    by : (b : Bool) → (cond b p (record { colour = c; origin = o })).colour ≡ cond b p.colour c
    by true = refl
    by false = refl

pub colour-behind : (r : List ℕ) → (pixel_behind r).colour ≡ behind_planes r
colour-behind r = colour-in-front (register 7 r % 16) Backdrop (behind_backdrop (external_video r)) ∙ ap (over (register 7 r % 16)) (by (external_video r))
  where
    by : (e : Bool) → (behind_backdrop e).colour ≡ bool_byte (not e)
    by true = refl
    by false = refl
