-- Counting through cells is dividing by their width. The line drawer counts through all of them, and a point of Text up to
-- its own: the proofs of both cite `counted`.
use Prim.Native.Nat.{ℕ, ◌-◌, ◌/◌, ◌%◌, ◌≤◌}
use native.Mathlib.Nat.{add-sub_cancel_left}
use native.Mathlib.Omega.{arith}
use mathlib.Core.Path.{◌≡◌, refl}
use lib.Arith.{digits_div, digits_mod}
use Rattle.chip.specs.declared.mode.Mode.{Mode}
use Rattle.chip.specs.declared.mode.Mode.TheVariants.{Text}
use Rattle.planes.specs.Plane.{cell_at, pixel_in_cell}
use Rattle.planes.specs.Counted.{Counted}

-- The cell that is counted is the quotient, and its pixel the remainder, in every mode.
pub counted : (m : Mode) (x i k : ℕ) → Counted m x i k → (i ≡ cell_at m x) × (k ≡ pixel_in_cell m x)
counted m x i k c = rw (c.column, add-sub_cancel_left, digits_div i c.pixel, digits_mod i c.pixel) (refl, refl)

-- In Text: at columns 8 to 247 the quotient and the remainder of x - 8 by six are counted, and no other cell and pixel.
pub text-counted : (x i k : ℕ) → Counted Text x i k → (i ≡ (x - 8) / 6) × (k ≡ (x - 8) % 6)
text-counted = counted Text

pub text-reached : (x : ℕ) → 8 ≤ x → x ≤ 247 → Counted Text x ((x - 8) / 6) ((x - 8) % 6)
text-reached x above below = record { cell = omega arith; pixel = omega arith; column = omega arith }
