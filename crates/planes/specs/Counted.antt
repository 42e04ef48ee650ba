-- Columns that are reached by counting, as the code does it, without a quotient.
use Rattle.std.specs.Prelude.{ℕ, ◌+◌, ◌*◌, ◌<◌, ◌≡◌}
use Rattle.chip.specs.declared.mode.Mode.{Mode}
use Rattle.planes.specs.Cells.{cells_in, cell_width, margin}

-- Column x is pixel k of cell i: i whole cells lie between the first column with a pattern and that cell, and k of its own
-- columns before x.
pub record Counted (m : Mode) (x i k : ℕ) : Type 0 where
  pub cell : i < cells_in m
  pub pixel : k < cell_width m
  pub column : x ≡ margin m + (i * cell_width m + k)
