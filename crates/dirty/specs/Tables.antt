-- The two tables that names choose from.
use Rattle.std.specs.Prelude.{ℕ, Bool, List}
use Rattle.chip.specs.Tables as chip
use Rattle.chip.specs.declared.mode.Mode.{Mode}
use Rattle.dirty.specs.Plane.{patterns_dirty, colours_dirty}
use Rattle.dirty.specs.declared.tables.Table.{Table}
use Rattle.dirty.specs.declared.tables.Table.TheVariants.{Patterns, Colours}

-- Which of VRAM's tables it is.
abbrev pub table_of : Table → chip.Table
table_of Patterns = chip.patterns
table_of Colours = chip.colours

-- Whether one of the bytes of it is dirty that a line's names choose.
abbrev pub cells_dirty : Mode → Table → List ℕ → List ℕ → List ℕ → ℕ → Bool
cells_dirty m Patterns r vram map l = patterns_dirty m r vram map l
cells_dirty m Colours r vram map l = colours_dirty m r vram map l
