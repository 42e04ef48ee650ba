-- The one cell that holds a column: it shows there, and fetches, what it does among all cells of its line.
use Prim.Native.Nat.{ℕ, ◌+◌, ◌-◌, ◌*◌, ◌/◌, ◌<◌}
use native.Mathlib.Nat.{zero-add}
use native.Mathlib.Omega.{arith}
use mathlib.Core.Path.{◌≡◌, refl}
use mathlib.Core.Bool.{Bool, true, false}
use mathlib.Core.List.Memᴰ
use mathlib.Core.List.{List}
use lib.Dec.{leb}
use lib.ListN.{get_or}
use borrow.Author.Tests.{ltb-true}
use Rattle.chip.specs.declared.mode.Mode.{Mode}
use Rattle.chip.specs.declared.mode.Mode.TheVariants.{Blank, GraphicsI, GraphicsII, Multicolor, Text}
use Rattle.chip.proofs.Laws.Ranges.{and_right}
use Rattle.fetches.specs.Fetch.{value, fetched, Among}
use Rattle.fetches.proofs.Among.{each-among}
use Rattle.planes.specs.Cells.{cells_in, cell_width, margin, cell_of, plane_of}
use Rattle.planes.specs.Plane.{in_cells, cell_at, cell_colour, no_cell, plane_colour, cell_holding}
use Rattle.planes.proofs.Laws.Plane.{cell-read}

-- where a cell holds the column
pub before-end : (m : Mode) (x : ℕ) → in_cells m x ≡ true → x < margin m + cells_in m * cell_width m
before-end m x e = ltb-true _ _ (and_right (leb (margin m) x) _ e)

one_of : (m : Mode) (x : ℕ) → x < margin m + cells_in m * cell_width m → (x - margin m) / cell_width m < cells_in m
one_of Blank x h = omega arith
one_of GraphicsI x h = omega arith
one_of GraphicsII x h = omega arith
one_of Multicolor x h = omega arith
one_of Text x h = omega arith

-- it is one of the line's cells
pub cell_one : (m : Mode) (x : ℕ) → in_cells m x ≡ true → cell_at m x < cells_in m
cell_one m x e = one_of m x (before-end m x e)

module _ (m : Mode) (r : List ℕ) (l : ℕ) (vram : List ℕ) (x : ℕ) where
  pub read-alone : cell_colour m (value (cell_holding m r l x) vram) x ≡ plane_colour m (value (plane_of m r l) vram) x
  unfolding plane_colour
  read-alone = by (in_cells m x) refl
    where
      by : (b : Bool) → in_cells m x ≡ b → cell_colour m (value (cell_holding m r l x) vram) x ≡ cell_colour m (get_or (value (plane_of m r l) vram) (cell_at m x) no_cell) x
      by true e = rw (e, cell-read m r l vram (cell_at m x) (cell_one m x e))
      by false e = rw e

  pub fetched-alone : Among (fetched (cell_holding m r l x) vram) (fetched (plane_of m r l) vram)
  unfolding fetched
  fetched-alone = by (in_cells m x) refl
    where
      by : (b : Bool) → in_cells m x ≡ b → Among (fetched (cell_holding m r l x) vram) (fetched (plane_of m r l) vram)
      by true e = rw e (rw (zero-add) at (each-among (cell_of m r l) vram 0 (cells_in m) (cell_at m x) (cell_one m x e)))
      by false e = rw e (λ a is. absurd (Memᴰ.not-nil is))
