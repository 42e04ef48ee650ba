-- What a line reads, and what it shows. It reads by the registers and the line number alone.
use Rattle.std.specs.Prelude.{ℕ, Bool, true, false, cond, List, []}
use Rattle.chip.specs.Lists.{tabulate}
use Rattle.chip.specs.Modes.{mode_of}
use Rattle.chip.specs.declared.mode.Mode.{Mode}
use Rattle.chip.specs.declared.mode.Mode.TheVariants.{Blank, GraphicsI, GraphicsII, Multicolor, Text}
use Rattle.fetches.specs.Fetch.{Fetch, answer, followed}
use Rattle.planes.specs.Cells.{plane_of}
use Rattle.planes.specs.Plane.{plane_colour}
use Rattle.planes.specs.Pixel.{pixel_of}
use Rattle.planes.specs.Origin.{origin_code, settle}
use Rattle.planes.specs.declared.cell.Cell.{Cell}
use Rattle.planes.specs.declared.origin.Pixel.{Pixel}
use Rattle.sprites.specs.Scan.{Found, scan_of}
use Rattle.sprites.specs.Pixels.{visible, sprite_colours, numbered_colours}
use Rattle.sprites.specs.declared.scan.Ended.TheVariants.{All}

-- What was read for a line: its cells, and what the scan found.
pub record Row : Type 0 where
  pub cells : List Cell
  pub found : Found

abbrev pub no_sprites : Found
no_sprites = record { sprites = []; ended = All }

-- Text and blank lines have no sprites.
abbrev pub has_sprites : Mode → Bool
has_sprites Blank = false
has_sprites GraphicsI = true
has_sprites GraphicsII = true
has_sprites Multicolor = true
has_sprites Text = false

abbrev pub sprites_of : Mode → List ℕ → ℕ → Fetch Found
sprites_of m r l = cond (has_sprites m) (scan_of r l) (answer no_sprites)

abbrev pub line_in : Mode → List ℕ → ℕ → Fetch Row
line_in m r l = followed (plane_of m r l) λ cells. followed (sprites_of m r l) λ f. answer (record { cells = cells; found = f })

-- What line l reads: from this one description come both its picture and its fetches.
unfoldable pub line_of : List ℕ → ℕ → Fetch Row
line_of r l = line_in (mode_of r) r l

-- The colour at column x, settled by the sprites that the scan found, the pattern plane's colour there, and what stands behind.
abbrev pub settled : List ℕ → Found → ℕ → ℕ → ℕ
settled r f plane x = pixel_of r (sprite_colours r f.sprites (visible x)) plane

unfoldable pub colour_at : List ℕ → Row → ℕ → ℕ
colour_at r row x = settled r row.found (plane_colour (mode_of r) row.cells x) x

-- The 256 colours of a row.
abbrev pub colours_of : List ℕ → Row → List ℕ
colours_of r row = tabulate 256 (colour_at r row)

-- The pixel at column x, with its origin, settled by the same with the sprites' numbers. Its colour is `settled`
-- (proofs/SameColours.antt).
abbrev pub settled_pixel : List ℕ → Found → ℕ → ℕ → Pixel
settled_pixel r f plane x = settle r (numbered_colours r f.sprites (visible x)) plane

unfoldable pub pixel_at : List ℕ → Row → ℕ → Pixel
pixel_at r row x = settled_pixel r row.found (plane_colour (mode_of r) row.cells x) x

-- The codes of a row's 256 origins.
abbrev pub origins_of : List ℕ → Row → List ℕ
origins_of r row = tabulate 256 (λ x. origin_code (pixel_at r row x).origin)
