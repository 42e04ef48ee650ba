-- The colour of a point is that of the drawn line, and so is its origin.
--
-- Take any state, any VRAM, any line and any column, at which the call is accepted, and any two slices of 256 bytes. Drawing the line
-- from the same state and VRAM into them is accepted too, and what the call answers is what the draw leaves at that column of each.
use Prim.Native.Nat.{ℕ, ◌<◌}
use native.Mathlib.Omega.{arith}
use mathlib.Core.Path.{◌≡◌, sym, ap, ap₂, ◌∙◌}
use mathlib.Core.List.{List}
use lib.ListN.{length, get_or}
use borrow.Author.Tests.{eqb-true, leb-true}
use Rattle.chip.specs.Refusals.{is_accepted}
use Rattle.chip.specs.declared.state.Chip.{Chip}
use Rattle.std.specs.Prelude.{Result, Ok}
use Rattle.chip.specs.declared.refusal.Refusal.{Refusal}
use Rattle.chip.proofs.Laws.Lists.{get_d_tabulate}
use Rattle.chip.proofs.Laws.Refusals.{the-new, all_pass}
use Rattle.fetches.specs.Fetch.{value}
use Rattle.planes.specs.Origin.{origin_code}
use Rattle.planes.specs.declared.origin.Pixel.{Pixel}
use Rattle.scanline.specs.Line.{line_of, colour_at, pixel_at}
use Rattle.scanline.specs.Calls.{line_size, colours, origins, draw_line_refusal, draw_line_line, draw_line_origins}
use Rattle.scanline.proofs.Laws.LineDraws.{line-accepted, line-drawn}
use Rattle.point.specs.declared.numbers.Point.{Point}
use Rattle.point.specs.Calls.{point_colour, point_origin, point_tests, point_refusal, point}
use Rattle.point.proofs.Laws.Point.{same-colour, same-pixel}

column : (r vram : List ℕ) (l x : ℕ) → x < 256 → point_colour r vram l x ≡ get_or (colours r vram l) x 0
column r vram l x h = same-colour r l x vram ∙ sym (get_d_tabulate 256 (colour_at r (value (line_of r l) vram)) x h)

origin-column : (r vram : List ℕ) (l x : ℕ) → x < 256 → point_origin r vram l x ≡ get_or (origins r vram l) x 0
origin-column r vram l x h =
    ap (λ (p : Pixel). origin_code p.origin) (same-pixel r l x vram)
    ∙ sym (get_d_tabulate 256 (λ y. origin_code (pixel_at r (value (line_of r l) vram) y).origin) x h)

abbrev the_point : ℕ → ℕ → Result Point Refusal
the_point colour origin = Ok (record { colour = colour; origin = origin })

pub as-drawn : (c : Chip) (vram : List ℕ) (l x : ℕ) → point_refusal c vram l x ≡ Ok tt
    → (line codes : List ℕ) → length line ≡ line_size → length codes ≡ line_size
    → (draw_line_refusal c vram line codes l ≡ Ok tt)
    × ((point c vram l x).result ≡ Ok (record { colour = get_or (draw_line_line c vram line codes l) x 0; origin = get_or (draw_line_origins c vram line codes l) x 0 }))
as-drawn c vram l x ok line codes wide long =
    let p = all_pass (point_tests c vram l x) (ap is_accepted ok) in
    let full = eqb-true _ _ p.0 in
    let low = leb-true l 191 p.1.1.0 in
    let near = leb-true x 255 p.1.1.1.0 in
    let drawn = line-accepted vram full c p.1.0 line codes (wide, long) l (omega arith) in (
      drawn,
      rw ok
          (ap₂ (λ (colour origin : ℕ). the_point colour origin)
          (column c.registers vram l x (omega arith) ∙ sym (ap (λ (s : List ℕ). get_or s x 0) (line-drawn vram full c p.1.0 line codes (wide, long) l (omega arith))))
          (origin-column c.registers vram l x (omega arith) ∙ sym (ap (λ (s : List ℕ). get_or s x 0) (the-new drawn (origins c.registers vram l) codes)))),
    )
