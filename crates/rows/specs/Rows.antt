-- The eight lines that show one row of the name table, and the words that they are painted with.
use Rattle.std.specs.Prelude.{ℕ, ◌+◌, ◌*◌, ◌/◌, ◌%◌, ◌<◌, ◌≡◌, Bool, true, false, List, [], length, get_or}
use Rattle.chip.specs.Lists.{tabulate}
use Rattle.chip.specs.State.{register}
use Rattle.chip.specs.declared.mode.Mode.{Mode}
use Rattle.chip.specs.declared.mode.Mode.TheVariants.{Blank, GraphicsI, GraphicsII, Multicolor, Text}
use Rattle.fetches.specs.Fetch.{value}
use Rattle.planes.specs.Cells.{plane_of}
use Rattle.planes.specs.Plane.{pick, plane_colour}
use Rattle.planes.specs.Pixel.{over, behind_planes, pixel_of}
use Rattle.planes.specs.declared.cell.Cell.{Cell}
use Rattle.words.specs.Words.{byte_of, Repeated}

-- Column x of line l: the pattern plane over the backdrop, without sprites.
abbrev pub plane_pixel : Mode → List ℕ → List ℕ → ℕ → ℕ → ℕ
plane_pixel m r vram l x = pixel_of r [] (plane_colour m (value (plane_of m r l) vram) x)

-- Lines 8 * row to 8 * row + 7 end to end, 256 columns each.
abbrev pub plane_row : Mode → List ℕ → List ℕ → ℕ → List ℕ
plane_row m r vram row = tabulate 2048 (λ i. plane_pixel m r vram (8 * row + i / 256) (i % 256))

-- Each of the sixteen colours over what stands behind the plane, eight times.
pub record Paints (r paints : List ℕ) : Type 0 where
  pub long : length paints ≡ 16
  pub paint : (colour : ℕ) → colour < 16 → Repeated (over colour (behind_planes r)) (get_or paints colour 0)

-- The modes in which one fetched byte decides a cell's pixels.
abbrev pub one_byte : Mode → Bool
one_byte Blank = false
one_byte GraphicsI = false
one_byte GraphicsII = false
one_byte Multicolor = true
one_byte Text = true

-- The cell of such a byte: in Text its pattern, in Multicolor its two colours.
abbrev pub byte_cell : Mode → List ℕ → ℕ → Cell
byte_cell Blank r b = record { pattern = 0; colours = 0 }
byte_cell GraphicsI r b = record { pattern = 0; colours = 0 }
byte_cell GraphicsII r b = record { pattern = 0; colours = 0 }
byte_cell Multicolor r b = record { pattern = 0xF0; colours = b }
byte_cell Text r b = record { pattern = b; colours = register 7 r }

-- The eight pixels of each byte's cell, over what stands behind the plane. In other modes nothing is said of the words.
pub record ByteWords (m : Mode) (r words : List ℕ) : Type 0 where
  pub long : length words ≡ 256
  pub shows : one_byte m ≡ true → (b j : ℕ) → b < 256 → j < 8 → byte_of j (get_or words b 0) ≡ over (pick (byte_cell m r b) j) (behind_planes r)
