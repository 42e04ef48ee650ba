-- What a point reads, the colour that it has, and where that comes from. It reads by the registers, the line and the column alone.
use Rattle.std.specs.Prelude.{ℕ, List}
use Rattle.chip.specs.Modes.{mode_of}
use Rattle.fetches.specs.Fetch.{Fetch, answer, followed}
use Rattle.planes.specs.Plane.{cell_colour, cell_holding}
use Rattle.planes.specs.declared.cell.Cell.{Cell}
use Rattle.planes.specs.declared.origin.Pixel.{Pixel}
use Rattle.scanline.specs.Line.{sprites_of, settled, settled_pixel}
use Rattle.sprites.specs.Scan.{Found}

-- What was read for a point: the cell that holds its column, if one does, and what the scan of its line found.
pub record Spot : Type 0 where
  pub cell : Cell
  pub found : Found

-- What the point at line l and column x reads: from this one description come its colour, its origin and its fetches.
unfoldable pub point_of : List ℕ → ℕ → ℕ → Fetch Spot
point_of r l x =
    followed (cell_holding (mode_of r) r l x) λ cell.
    followed (sprites_of (mode_of r) r l) λ f.
    answer (record { cell = cell; found = f })

-- Its colour is settled as that of a drawn line's pixel is.
unfoldable pub colour_of : List ℕ → Spot → ℕ → ℕ
colour_of r spot x = settled r spot.found (cell_colour (mode_of r) spot.cell x) x

-- Its pixel, colour and origin, is settled likewise.
unfoldable pub spot_pixel : List ℕ → Spot → ℕ → Pixel
spot_pixel r spot x = settled_pixel r spot.found (cell_colour (mode_of r) spot.cell x) x
