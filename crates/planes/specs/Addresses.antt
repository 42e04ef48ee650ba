-- Where the bytes stand that give a column its pattern and colours.
use Rattle.std.specs.Prelude.{ℕ, cond, List, get_or}
use Rattle.chip.specs.declared.mode.Mode.{Mode}
use Rattle.planes.specs.Cells.{name_address, pattern_address, colour_address}
use Rattle.planes.specs.Plane.{in_cells, cell_at}
use Rattle.planes.specs.declared.addresses.CellAddresses.{CellAddresses}

-- Of cell i of line l: its name, and by the name that VRAM holds there its pattern and its colours. In Multicolor the pattern is the
-- byte with the two colours. There and in Text no table of colours is read, and colours is 0.
abbrev pub addresses_of : Mode → List ℕ → ℕ → ℕ → List ℕ → CellAddresses
addresses_of m r l i vram =
    let name = get_or vram (name_address m r l i) 0 in
    record { name = name_address m r l i; pattern = pattern_address m r l name; colours = colour_address m r l name }

-- Of the cell that holds column x, and 0 where none does.
unfoldable pub addresses_at : Mode → List ℕ → ℕ → ℕ → List ℕ → CellAddresses
addresses_at m r l x vram = cond (in_cells m x) (addresses_of m r l (cell_at m x) vram) (record { name = 0; pattern = 0; colours = 0 })
