-- The colour of the pattern plane at a column.
use Rattle.std.specs.Prelude.{ℕ, ◌+◌, ◌-◌, ◌*◌, ◌/◌, ◌%◌, Bool, cond, ◌&&◌, List, leb, ltb, get_or}
use Rattle.chip.specs.Bits.{bit}
use Rattle.chip.specs.declared.mode.Mode.{Mode}
use Rattle.fetches.specs.Fetch.{Fetch, answer}
use Rattle.planes.specs.Cells.{cells_in, cell_width, margin, cell_of}
use Rattle.planes.specs.declared.cell.Cell.{Cell}

-- Whether a cell holds column x: none does in Text's margins, and none on a blank line.
abbrev pub in_cells : Mode → ℕ → Bool
in_cells m x = leb (margin m) x && ltb x (margin m + cells_in m * cell_width m)

-- Which cell that is, and which of its pixels the column shows.
abbrev pub cell_at : Mode → ℕ → ℕ
cell_at m x = (x - margin m) / cell_width m

abbrev pub pixel_in_cell : Mode → ℕ → ℕ
pixel_in_cell m x = (x - margin m) % cell_width m

-- Pixel k of a cell, from the left: the leftmost is the most significant bit. A 1 bit takes the high nibble, a 0 bit the low one.
abbrev pub pick : Cell → ℕ → ℕ
pick c k = cond (bit (7 - k) c.pattern) (c.colours / 16) (c.colours % 16)

-- What column x shows of the cell that holds it, and no pattern (0) where none does.
abbrev pub cell_colour : Mode → Cell → ℕ → ℕ
cell_colour m cell x = cond (in_cells m x) (pick cell (pixel_in_cell m x)) 0

abbrev pub no_cell : Cell
no_cell = record { pattern = 0; colours = 0 }

-- The plane's colour at column x, from all cells of a line.
unfoldable pub plane_colour : Mode → List Cell → ℕ → ℕ
plane_colour m cells x = cell_colour m (get_or cells (cell_at m x) no_cell) x

-- The one cell of line l that holds column x, read alone. Where there is none, nothing is read.
abbrev pub cell_holding : Mode → List ℕ → ℕ → ℕ → Fetch Cell
cell_holding m r l x = cond (in_cells m x) (cell_of m r l (cell_at m x)) (answer no_cell)
