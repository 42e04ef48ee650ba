-- A point's colour is below 16, where registers and VRAM hold bytes, and the code of its origin below 36.
use Prim.Native.Nat.{ℕ, ◌<◌}
use mathlib.Core.Bool.{Bool, true, false, cond}
use mathlib.Core.List.{List}
use Rattle.chip.specs.Modes.{mode_of}
use Rattle.chip.specs.State.{Bytes}
use Rattle.fetches.specs.Fetch.{answer, value}
use Rattle.planes.specs.Pixel.{first_non_zero}
use Rattle.planes.specs.Origin.{origin_code}
use Rattle.planes.specs.Plane.{cell_colour, cell_holding}
use Rattle.planes.proofs.Laws.Small.{over-small, behind-small, column-small}
use Rattle.sprites.specs.Pixels.{visible, sprite_colours}
use Rattle.sprites.specs.Scan.{scan_of}
use Rattle.sprites.proofs.Laws.Small.{sprites-small}
use Rattle.sprites.proofs.Laws.Codes.{code-small, code-small-plain}
use Rattle.scanline.specs.Line.{no_sprites, has_sprites, settled_pixel}
use Rattle.point.specs.Calls.{point_colour, point_origin}
use Rattle.point.proofs.Laws.Point.{colour-is, pixel-is}

-- with sprites or without
over-both : (r : List ℕ) (l : ℕ) (vram : List ℕ) (c behind : ℕ) → behind < 16 → (b : Bool) → first_non_zero (sprite_colours r (value (cond b (scan_of r l) (answer no_sprites)) vram).sprites c) behind < 16
unfolding value
over-both r l vram c behind h true = sprites-small r l vram c behind h
over-both r l vram c behind h false = h

pub colour-small : (r : List ℕ) → Bytes r → (vram : List ℕ) → Bytes vram → (l x : ℕ) → point_colour r vram l x < 16
colour-small r registers vram bytes l x =
    let plane = cell_colour (mode_of r) (value (cell_holding (mode_of r) r l x) vram) x in
    let behind = over-small plane _ (column-small r registers vram bytes l (mode_of r) x) (behind-small r) in
    rw (colour-is r l x vram) (over-both r l vram (visible x) _ behind (has_sprites (mode_of r)))

code-both : (r : List ℕ) (l x : ℕ) (vram : List ℕ) (plane : ℕ) (b : Bool) → origin_code (settled_pixel r (value (cond b (scan_of r l) (answer no_sprites)) vram) plane x).origin < 36
unfolding value
code-both r l x vram plane true = code-small r l vram (visible x) plane
code-both r l x vram plane false = code-small-plain r plane

pub origin-small : (r vram : List ℕ) (l x : ℕ) → point_origin r vram l x < 36
origin-small r vram l x = rw (pixel-is r l x vram) (code-both r l x vram (cell_colour (mode_of r) (value (cell_holding (mode_of r) r l x) vram) x) (has_sprites (mode_of r)))
