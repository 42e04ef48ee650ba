-- The pattern plane of one line, as it is painted cell by cell.
use Prim.Native.Nat.{ℕ, ◌+◌, ◌*◌, ◌≤◌, ◌<◌}
use native.Mathlib.Nat.{not-suc-le-zero, suc-mul}
use native.Mathlib.Numerals.{add-one}
use native.Mathlib.Omega.{arith}
use mathlib.Core.Path.{◌≡◌, sym, ◌∙◌}
use mathlib.Core.List.{List}
use lib.ListN.{length, get_or}
use Rattle.chip.specs.Lists.{tabulate}
use Rattle.chip.specs.declared.mode.Mode.{Mode}
use Rattle.chip.proofs.Laws.Lists.{tabulated}
use Rattle.fetches.specs.Fetch.{value}
use Rattle.planes.specs.Cells.{cells_in, cell_width, margin, cell_of, plane_of}
use Rattle.planes.specs.Painted.{Painted}
use Rattle.planes.specs.Plane.{plane_colour}
use Rattle.planes.specs.declared.cell.Cell.{Cell}
use Rattle.planes.proofs.Laws.Painted.{run_more}
use Rattle.words.specs.Words.{byte_of}
use Rattle.rows.specs.Lines.{LineSettled}
use Rattle.rows.specs.Rows.{plane_pixel, Paints}
use Rattle.rows.proofs.Laws.Paints.{blended, shown}
use Rattle.rows.proofs.Laws.Plane.{cell-pixel, margin-pixel}
use Rattle.rows.proofs.Laws.Tiles.{narrow}

pub line-none : {line : List ℕ} {colour : ℕ → ℕ} → length line ≡ 256 → LineSettled line colour 0
line-none e = record { long = e; done = λ x h. absurd (not-suc-le-zero h) }

-- Eight columns more, of which the first count.
pub line-more : {new old : List ℕ} {colour f : ℕ → ℕ} {at : ℕ} (width : ℕ) → width ≤ 8 → ((j : ℕ) → j < width → f j ≡ colour (at + j)) → LineSettled old colour at → Painted new old at 8 f → LineSettled new colour (at + width)
line-more {new} {old} {colour} {f} {at} width few same s p =
    record {
      long = p.long ∙ s.long;
      done = run_more (λ x. get_or new x 0 ≡ colour x) at width (λ x below. p.left x below ∙ s.done x below) (λ j h. p.inside j (omega arith) ∙ same j h);
    }

-- all columns
pub line-all : {line : List ℕ} {colour : ℕ → ℕ} → LineSettled line colour 256 → line ≡ tabulate 256 colour
line-all s = tabulated s.long s.done

module _ (m : Mode) (r vram : List ℕ) (l : ℕ) where
  -- One cell more.
  pub line-cell : {new old paints : List ℕ} {cell : Cell} (w i : ℕ) → Paints r paints → i < cells_in m → cell ≡ value (cell_of m r l i) vram → cell.colours < 256 → ((j : ℕ) → j < 8 → byte_of j w ≡ blended paints cell.pattern cell.colours j) → LineSettled old (plane_pixel m r vram l) (margin m + i * cell_width m) → Painted new old (margin m + i * cell_width m) 8 (λ j. byte_of j w) → LineSettled new (plane_pixel m r vram l) (margin m + (i + 1) * cell_width m)
  line-cell {cell = cell} w i paint h read small word s p =
      let next : margin m + i * cell_width m + cell_width m ≡ margin m + (i + 1) * cell_width m = rw (add-one, suc-mul) (omega arith) in
      rw next
      at (line-more (cell_width m) (narrow m)
      (λ j hj.
      let few = narrow m in
      let below : j < 8 = omega arith in
      word j below ∙ shown paint (sym read) small j below ∙ cell-pixel m r vram l i j h hj)
      s p)

  -- Eight columns without a cell.
  pub line-margin : {new old paints : List ℕ} {at : ℕ} → Paints r paints → ((j : ℕ) → j < 8 → plane_colour m (value (plane_of m r l) vram) (at + j) ≡ 0) → LineSettled old (plane_pixel m r vram l) at → Painted new old at 8 (λ j. byte_of j (get_or paints 0 0)) → LineSettled new (plane_pixel m r vram l) (at + 8)
  line-margin {at = at} paint none s p = line-more 8 (omega arith) (λ j h. margin-pixel m r vram paint l (at + j) j h (none j h)) s p
