-- Every colour is below 16, where VRAM and registers hold bytes.
use Prim.Native.Nat.{ℕ, ◌-◌, ◌%◌, ◌<◌}
use native.Mathlib.Omega.{arith}
use mathlib.Core.Path.{◌≡◌, refl}
use mathlib.Core.Bool.{Bool, true, false, cond, not}
use mathlib.Core.List.{List}
use lib.Dec.{eqb, lit<}
use mir.Val.{bool_byte}
use Rattle.chip.specs.Bits.{bit}
use Rattle.chip.specs.Modes.{external_video}
use Rattle.chip.specs.State.{Bytes, register}
use Rattle.chip.specs.declared.mode.Mode.{Mode}
use Rattle.chip.specs.declared.mode.Mode.TheVariants.{Blank, GraphicsI, GraphicsII, Multicolor, Text}
use Rattle.fetches.specs.Fetch.{value}
use Rattle.planes.specs.Cells.{colour_address, pattern_address, shape_of, cell_of}
use Rattle.planes.specs.Pixel.{over, behind_planes}
use Rattle.planes.specs.Plane.{pick, in_cells, pixel_in_cell, cell_at, cell_colour, cell_holding}
use Rattle.planes.specs.declared.cell.Cell.{Cell}

one-or-other : (b : Bool) {x y : ℕ} → x < 16 → y < 16 → cond b x y < 16
one-or-other true hx hy = hx
one-or-other false hx hy = hy

pub over-small : (front behind : ℕ) → front < 16 → behind < 16 → over front behind < 16
over-small front behind hf hb = one-or-other (eqb front 0) hb hf

bit-small : (b : Bool) → bool_byte b < 16
bit-small true = lit< tt
bit-small false = lit< tt

pub behind-small : (r : List ℕ) → behind_planes r < 16
behind-small r = over-small (register 7 r % 16) (bool_byte (not (external_video r))) (omega arith) (bit-small (not (external_video r)))

pick_small : (c : Cell) (k : ℕ) → c.colours < 256 → pick c k < 16
pick_small c k h = one-or-other (bit (7 - k) c.pattern) (omega arith) (omega arith)

module _ (r : List ℕ) (registers : Bytes r) (vram : List ℕ) (bytes : Bytes vram) (l : ℕ) where
  shape-small : (m : Mode) (name : ℕ) → (value (shape_of m r l name) vram).colours < 256
  unfolding value shape_of
  shape-small Blank name = lit< tt
  shape-small GraphicsI name = bytes (colour_address GraphicsI r l name)
  shape-small GraphicsII name = bytes (colour_address GraphicsII r l name)
  shape-small Multicolor name = bytes (pattern_address Multicolor r l name)
  shape-small Text name = registers 7

  cell-small : (m : Mode) (i : ℕ) → (value (cell_of m r l i) vram).colours < 256
  unfolding value cell_of
  cell-small m i = shape-small m _

  -- what a column shows of its cell
  pub column-small : (m : Mode) (x : ℕ) → cell_colour m (value (cell_holding m r l x) vram) x < 16
  unfolding value
  column-small m x = by (in_cells m x) refl
    where
      by : (b : Bool) → in_cells m x ≡ b → cell_colour m (value (cell_holding m r l x) vram) x < 16
      by true e = rw e (pick_small _ (pixel_in_cell m x) (cell-small m (cell_at m x)))
      by false e = rw e (lit< tt)
