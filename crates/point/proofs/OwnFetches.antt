-- A point depends on its own fetches alone, and they are among those of its line.
--
-- The fetches are those of its description at one VRAM: of the cell that holds the column, if one does, and of the sprites of the
-- line. Where they stand can depend on VRAM (a name says where its pattern is), so they are taken at one of the two VRAMs, and found
-- to be the same at the other. This is the law of descriptions, whatever they read.
use Prim.Native.Nat.{ℕ}
use mathlib.Core.Path.{◌≡◌, ap}
use mathlib.Core.List.{List, ◌∷◌}
use lib.Dec.{eqb}
use lib.ListN.{length}
use Rattle.chip.specs.Modes.{mode_of}
use Rattle.chip.specs.Refusals.{state_test, refusal_of}
use Rattle.chip.specs.State.{vram_size}
use Rattle.chip.specs.declared.state.Chip.{Chip}
use Rattle.chip.specs.declared.refusal.Refusal.TheVariants.{VramLength}
use Rattle.fetches.specs.Fetch.{fetched, Agree, Among}
use Rattle.fetches.proofs.Laws.{same-value, same-fetched}
use Rattle.fetches.proofs.Among.{among-append}
use Rattle.planes.specs.Cells.{plane_of}
use Rattle.planes.specs.Plane.{cell_holding}
use Rattle.planes.proofs.Laws.Column.{fetched-alone}
use Rattle.scanline.specs.Line.{sprites_of, line_of}
use Rattle.scanline.proofs.Laws.Line.{fetched-line}
use Rattle.planes.specs.Origin.{origin_code}
use Rattle.planes.specs.declared.origin.Pixel.{Pixel}
use Rattle.point.specs.Point.{Spot, point_of, colour_of, spot_pixel}
use Rattle.point.specs.Calls.{point_colour, point_pixel, point_own_tests, point_given, point}
use Rattle.point.proofs.Laws.Point.{fetched-point}

-- Two VRAMs that agree at the fetches which the point makes at the first: it has the same colour, the same origin
-- with it, and makes the same fetches at both.
pub same-pixel-and-fetches : (r : List ℕ) (l x : ℕ) (one other : List ℕ) → Agree (fetched (point_of r l x) one) one other
    → (point_colour r other l x ≡ point_colour r one l x)
    × (point_pixel r other l x ≡ point_pixel r one l x)
    × (fetched (point_of r l x) other ≡ fetched (point_of r l x) one)
same-pixel-and-fetches r l x one other h =
    let same = same-value (point_of r l x) one other h in
    (ap (λ (s : Spot). colour_of r s x) same, ap (λ (s : Spot). spot_pixel r s x) same, same-fetched (point_of r l x) one other h)

-- So the call has the same answer, accepted or refused, if both are equally long.
pub same_answer : (c : Chip) (l x : ℕ) (one other : List ℕ) → length other ≡ length one
    → Agree (fetched (point_of c.registers l x) one) one other → point c other l x ≡ point c one l x
same_answer c l x one other same h =
    let long : eqb (length other) vram_size ≡ eqb (length one) vram_size = ap (λ (n : ℕ). eqb n vram_size) same in
    let alike = same-pixel-and-fetches c.registers l x one other h in
    let code = ap (λ (p : Pixel). origin_code p.origin) alike.1 in
    λ i. record { chip = c; result = point_given (refusal_of (record { refusal = VramLength; passes = long i } ∷ state_test c ∷ point_own_tests l x)) (alike.0 i) (code i) }

-- Every byte that a point fetches is one that its line fetches: so it lies within VRAM, as those do.
pub among-the-line : (r : List ℕ) (l x : ℕ) (vram : List ℕ) → Among (fetched (point_of r l x) vram) (fetched (line_of r l) vram)
among-the-line r l x vram =
    let m = mode_of r in
    rw (fetched-point r l x vram, fetched-line r l vram)
    (among-append (fetched (cell_holding m r l x) vram) (fetched (plane_of m r l) vram) (fetched (sprites_of m r l) vram) (fetched-alone m r l vram x))
