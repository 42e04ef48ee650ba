-- What a point reads and shows, put together from its cell and the sprites of its line.
use Prim.Native.Nat.{ℕ}
use mathlib.Core.Path.{◌≡◌, sym, ap, ◌∙◌}
use mathlib.Core.List.{List, [], ◌++◌}
use Rattle.chip.specs.Modes.{mode_of}
use Rattle.chip.specs.declared.mode.Mode.{Mode}
use Rattle.fetches.specs.Fetch.{value, fetched}
use Rattle.fetches.proofs.Laws.{value-both, fetched-both}
use Rattle.planes.specs.Origin.{frontmost, settle}
use Rattle.planes.specs.Plane.{cell_colour, cell_holding}
use Rattle.planes.specs.declared.cell.Cell.{Cell}
use Rattle.planes.specs.declared.origin.Pixel.{Pixel}
use Rattle.planes.proofs.Laws.Column.{read-alone}
use Rattle.sprites.specs.Pixels.{visible, numbered_colours}
use Rattle.sprites.specs.Scan.{Found}
use Rattle.scanline.specs.Line.{Row, sprites_of, line_of, settled, colour_at, settled_pixel, pixel_at}
use Rattle.scanline.proofs.Laws.Line.{row_is}
use Rattle.scanline.proofs.SameColours as settles
use Rattle.point.specs.Point.{Spot, point_of, colour_of, spot_pixel}
use Rattle.point.specs.Calls.{point_colour, point_pixel}

module _ (r : List ℕ) (l x : ℕ) (vram : List ℕ) where
  abbrev m : Mode
  m = mode_of r

  abbrev spot : Cell → Found → Spot
  spot cell f = record { cell = cell; found = f }

  pub point-is : value (point_of r l x) vram ≡ spot (value (cell_holding m r l x) vram) (value (sprites_of m r l) vram)
  unfolding point_of
  point-is = value-both (cell_holding m r l x) (sprites_of m r l) spot vram

  -- the cell's bytes, and then the sprites'
  pub fetched-point : fetched (point_of r l x) vram ≡ fetched (cell_holding m r l x) vram ++ fetched (sprites_of m r l) vram
  unfolding point_of
  fetched-point = fetched-both (cell_holding m r l x) (sprites_of m r l) spot vram

  pub colour-is : point_colour r vram l x ≡ settled r (value (sprites_of m r l) vram) (cell_colour m (value (cell_holding m r l x) vram) x) x
  unfolding colour_of
  colour-is = ap (λ (s : Spot). colour_of r s x) point-is

  pub pixel-is : point_pixel r vram l x ≡ settled_pixel r (value (sprites_of m r l) vram) (cell_colour m (value (cell_holding m r l x) vram) x) x
  unfolding spot_pixel
  pixel-is = ap (λ (s : Spot). spot_pixel r s x) point-is

  -- the pixel has the point's colour
  pub pixel-colour : (point_pixel r vram l x).colour ≡ point_colour r vram l x
  pixel-colour =
      ap (λ (p : Pixel). p.colour) pixel-is
      ∙ settles.same-colour r (value (sprites_of m r l) vram) (cell_colour m (value (cell_holding m r l x) vram) x) x
      ∙ sym colour-is

  -- the sprites over the plane
  pub pixel-over : {f : Found} → value (sprites_of m r l) vram ≡ f → {p : Pixel} → p ≡ frontmost (numbered_colours r f.sprites (visible x)) (settle r [] (cell_colour m (value (cell_holding m r l x) vram) x)) → p ≡ point_pixel r vram l x
  pixel-over found e =
      e ∙ sym (pixel-is ∙ ap (λ (g : Found). settled_pixel r g (cell_colour m (value (cell_holding m r l x) vram) x) x) found)

  -- a drawn line has this colour there, and this pixel
  pub same-colour : point_colour r vram l x ≡ colour_at r (value (line_of r l) vram) x
  unfolding colour_at
  same-colour =
      colour-is
      ∙ ap (λ (plane : ℕ). settled r (value (sprites_of m r l) vram) plane x) (read-alone m r l vram x)
      ∙ sym (ap (λ (row : Row). colour_at r row x) (row_is r l vram))

  pub same-pixel : point_pixel r vram l x ≡ pixel_at r (value (line_of r l) vram) x
  unfolding pixel_at
  same-pixel =
      pixel-is
      ∙ ap (λ (plane : ℕ). settled_pixel r (value (sprites_of m r l) vram) plane x) (read-alone m r l vram x)
      ∙ sym (ap (λ (row : Row). pixel_at r row x) (row_is r l vram))
