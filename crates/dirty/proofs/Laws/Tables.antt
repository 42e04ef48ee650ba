-- The parts of the map that belong to the pattern plane's tables lie within it.
use Prim.Native.Nat.{ℕ, ◌+◌, ◌*◌, ◌≤◌, ◌<◌}
use native.Mathlib.Omega.{arith}
use mathlib.Core.Path.{◌≡◌}
use mathlib.Core.Bool.{true}
use mathlib.Core.List.{List}
use lib.Dec.{lit<}
use Rattle.chip.specs.State.{masked}
use Rattle.chip.specs.Tables.{names, patterns, colours, base, size}
use Rattle.chip.specs.declared.mode.Mode.{Mode}
use Rattle.chip.specs.declared.mode.Mode.TheVariants.{Blank, GraphicsI, GraphicsII, Multicolor, Text}
use Rattle.chip.proofs.Laws.Tables.{at-most-mask}
use Rattle.planes.specs.Cells.{cells_in}
use Rattle.dirty.specs.declared.tables.Table.{Table}
use Rattle.dirty.specs.declared.tables.Table.TheVariants.{Patterns, Colours}
use Rattle.dirty.specs.Tables.{table_of}
use Rattle.dirty.specs.Plane.{third_of, byte_shown}

-- a pattern has eight bytes
pub shown-small : (m : Mode) (l : ℕ) → byte_shown m l < 8
shown-small Blank l = omega arith
shown-small GraphicsI l = omega arith
shown-small GraphicsII l = omega arith
shown-small Multicolor l = omega arith
shown-small Text l = omega arith

module _ (r : List ℕ) (ok : masked r ≡ true) where
  pub row_inside : (m : Mode) (row : ℕ) → row < 24 → base m names r + row * cells_in m + cells_in m ≤ 16384
  row_inside Blank row h = omega (arith, at-most-mask r ok 2 (lit< tt))
  row_inside GraphicsI row h = omega (arith, at-most-mask r ok 2 (lit< tt))
  row_inside GraphicsII row h = omega (arith, at-most-mask r ok 2 (lit< tt))
  row_inside Multicolor row h = omega (arith, at-most-mask r ok 2 (lit< tt))
  row_inside Text row h = omega (arith, at-most-mask r ok 2 (lit< tt))

  pub patterns-inside : (m : Mode) → base m patterns r + size m patterns ≤ 16384
  patterns-inside Blank = omega (arith, at-most-mask r ok 4 (lit< tt))
  patterns-inside GraphicsI = omega (arith, at-most-mask r ok 4 (lit< tt))
  patterns-inside GraphicsII = omega (arith, at-most-mask r ok 4 (lit< tt))
  patterns-inside Multicolor = omega (arith, at-most-mask r ok 4 (lit< tt))
  patterns-inside Text = omega (arith, at-most-mask r ok 4 (lit< tt))

  pub colours-inside : (m : Mode) → base m colours r + size m colours ≤ 16384
  colours-inside Blank = omega (arith, at-most-mask r ok 3 (lit< tt))
  colours-inside GraphicsI = omega (arith, at-most-mask r ok 3 (lit< tt))
  colours-inside GraphicsII = omega (arith, at-most-mask r ok 3 (lit< tt))
  colours-inside Multicolor = omega (arith, at-most-mask r ok 3 (lit< tt))
  colours-inside Text = omega (arith, at-most-mask r ok 3 (lit< tt))

  pub table-inside : (m : Mode) (t : Table) → base m (table_of t) r + size m (table_of t) ≤ 16384
  table-inside m Patterns = patterns-inside m
  table-inside m Colours = colours-inside m

  -- the patterns of 256 names, in the third of a row
  pub third-inside : (m : Mode) (row : ℕ) → row < 24 → base m patterns r + 8 * third_of m row + 2048 ≤ 16384
  third-inside Blank row h = omega (arith, at-most-mask r ok 4 (lit< tt))
  third-inside GraphicsI row h = omega (arith, at-most-mask r ok 4 (lit< tt))
  third-inside GraphicsII row h = omega (arith, at-most-mask r ok 4 (lit< tt))
  third-inside Multicolor row h = omega (arith, at-most-mask r ok 4 (lit< tt))
  third-inside Text row h = omega (arith, at-most-mask r ok 4 (lit< tt))

pub ruleset inside = (row_inside, table-inside, third-inside)

pub ruleset registers = (at-most-mask)
