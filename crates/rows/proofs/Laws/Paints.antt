-- What the paints show.
use Prim.Native.Nat.{ℕ, ◌-◌, ◌/◌, ◌%◌, ◌<◌}
use native.Mathlib.Omega.{arith}
use mathlib.Core.Path.{◌≡◌}
use mathlib.Core.Bool.{cond}
use mathlib.Core.List.{List}
use lib.ListN.{length, get_or}
use Rattle.chip.specs.Bits.{bit}
use Rattle.planes.specs.Pixel.{over, behind_planes}
use Rattle.planes.specs.Plane.{pick}
use Rattle.planes.specs.declared.cell.Cell.{Cell}
use Rattle.planes.proofs.Laws.Pixel.{cond_of}
use Rattle.words.specs.Words.{byte_of, Repeated}
use Rattle.rows.specs.Rows.{Paints}

-- Byte j of a pattern in the paints of a byte of two colours.
abbrev pub blended : List ℕ → ℕ → ℕ → ℕ → ℕ
blended paints pattern colours j = cond (bit (7 - j) pattern) (byte_of j (get_or paints (colours / 16) 0)) (byte_of j (get_or paints (colours % 16) 0))

-- A cell's pixel is of the paints of its colours.
pub shown : {r paints : List ℕ} {read cell : Cell} → Paints r paints → read ≡ cell → cell.colours < 256 → (j : ℕ) → j < 8 → blended paints cell.pattern cell.colours j ≡ over (pick read j) (behind_planes r)
shown {r} {paints} {read} {cell} p e small j h =
    rw e
    (cond_of (λ (colour : ℕ). over colour (behind_planes r)) (bit (7 - j) cell.pattern) (cell.colours / 16) (cell.colours % 16)
    (p.paint (cell.colours / 16) (omega arith) j h)
    (p.paint (cell.colours % 16) (omega arith) j h))

-- Paints as a loop mixes them: those before colour are done.
pub record Mixed (paints : List ℕ) (behind colour : ℕ) : Type 0 where
  pub long : length paints ≡ 16
  pub paint : (k : ℕ) → k < colour → Repeated (over k behind) (get_or paints k 0)
