-- Where the bytes of a row's cells stand, on line k of the eight lines of the row, and what the cells are.
use Prim.Native.Nat.{ℕ, ◌+◌, ◌*◌, ◌/◌, ◌%◌, ◌≤◌, ◌<◌}
use native.Mathlib.Nat.{add_assoc, add-zero}
use native.Mathlib.Omega.{arith}
use mathlib.Core.Path.{◌≡◌, sym}
use mathlib.Core.List.{List}
use lib.ListN.{get_or}
use Rattle.chip.specs.State.{register}
use Rattle.chip.specs.declared.mode.Mode.{Mode}
use Rattle.chip.specs.declared.mode.Mode.TheVariants.{GraphicsI, GraphicsII, Multicolor, Text}
use Rattle.chip.proofs.Laws.Tables.{at-most-mask}
use Rattle.fetches.specs.Fetch.{value}
use Rattle.planes.specs.Cells.{cells_in, name_address, pattern_address, colour_address, shape_of, cell_of}

-- The name of a row's cell i.
abbrev pub name_at : Mode → List ℕ → List ℕ → ℕ → ℕ → ℕ
name_at m r vram row i = get_or vram (register 2 r * 1024 + row * cells_in m + i) 0

module _ (r vram : List ℕ) (row k i : ℕ) (h : k < 8) where
  name-row : (m : Mode) → name_address m r (8 * row + k) i ≡ register 2 r * 1024 + row * cells_in m + i
  unfolding name_address
  name-row m =
      let e : (8 * row + k) / 8 ≡ row = omega arith in
      rw e (sym (add_assoc (register 2 r * 1024) (row * cells_in m) i))

  -- a cell by its name
  named : (m : Mode) → value (cell_of m r (8 * row + k) i) vram ≡ value (shape_of m r (8 * row + k) (name_at m r vram row i)) vram
  unfolding value cell_of
  named m = rw (name-row m)

  pub cell-graphics-one :
      let name : ℕ = name_at GraphicsI r vram row i in
      value (cell_of GraphicsI r (8 * row + k) i) vram ≡ record { pattern = get_or vram (register 4 r * 2048 + 8 * name + k) 0; colours = get_or vram (register 3 r * 64 + name / 8) 0 }
  unfolding value shape_of pattern_address colour_address
  cell-graphics-one =
      let name : ℕ = name_at GraphicsI r vram row i in
      let p : register 4 r * 2048 + (8 * name + (8 * row + k) % 8) ≡ register 4 r * 2048 + 8 * name + k = omega arith in
      rw (named GraphicsI, p)

  pub cell-graphics-two :
      let name : ℕ = name_at GraphicsII r vram row i in
      let third : ℕ = row / 8 * 2048 in
      value (cell_of GraphicsII r (8 * row + k) i) vram ≡ record { pattern = get_or vram (register 4 r / 4 * 8192 + third + 8 * name + k) 0; colours = get_or vram (register 3 r / 128 * 8192 + third + 8 * name + k) 0 }
  unfolding value shape_of pattern_address colour_address
  cell-graphics-two =
      let name : ℕ = name_at GraphicsII r vram row i in
      let offset : (8 * row + k) / 64 * 2048 + 8 * name + (8 * row + k) % 8 ≡ row / 8 * 2048 + 8 * name + k = omega arith in
      let regroup : (base : ℕ) → base + (row / 8 * 2048 + 8 * name + k) ≡ base + row / 8 * 2048 + 8 * name + k = λ base. omega arith in
      rw (named GraphicsII, offset, regroup (register 4 r / 4 * 8192), regroup (register 3 r / 128 * 8192))

  pub cell-text :
      let name : ℕ = name_at Text r vram row i in
      value (cell_of Text r (8 * row + k) i) vram ≡ record { pattern = get_or vram (register 4 r * 2048 + 8 * name + k) 0; colours = register 7 r }
  unfolding value shape_of pattern_address
  cell-text =
      let name : ℕ = name_at Text r vram row i in
      let p : register 4 r * 2048 + (8 * name + (8 * row + k) % 8) ≡ register 4 r * 2048 + 8 * name + k = omega arith in
      rw (named Text, p)

  -- In Multicolor a name's two bytes of a row are for four lines each.
  block : (half : ℕ) → k / 4 ≡ half →
      let name : ℕ = name_at Multicolor r vram row i in
      value (cell_of Multicolor r (8 * row + k) i) vram ≡ record { pattern = 0xF0; colours = get_or vram (register 4 r * 2048 + row % 4 * 2 + 8 * name + half) 0 }
  unfolding value shape_of pattern_address
  block half e =
      let name : ℕ = name_at Multicolor r vram row i in
      let p : register 4 r * 2048 + (8 * name + (8 * row + k) / 4 % 8) ≡ register 4 r * 2048 + row % 4 * 2 + 8 * name + half = omega arith in
      rw (named Multicolor, p)

  pub cell-upper : k < 4 →
      let name : ℕ = name_at Multicolor r vram row i in
      value (cell_of Multicolor r (8 * row + k) i) vram ≡ record { pattern = 0xF0; colours = get_or vram (register 4 r * 2048 + row % 4 * 2 + 8 * name) 0 }
  cell-upper above = rw add-zero at (block 0 (omega arith))

  pub cell-lower : 4 ≤ k →
      let name : ℕ = name_at Multicolor r vram row i in
      value (cell_of Multicolor r (8 * row + k) i) vram ≡ record { pattern = 0xF0; colours = get_or vram (register 4 r * 2048 + row % 4 * 2 + 8 * name + 1) 0 }
  cell-lower below = block 1 (omega arith)

-- that the tables stand within VRAM
pub ruleset registers = (at-most-mask)
