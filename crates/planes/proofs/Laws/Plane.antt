-- The plane's colour inside and outside of the cells, for every mode at once.
use Prim.Native.Nat.{ℕ, ◌+◌, ◌*◌, ◌≤◌, ◌<◌}
use native.Mathlib.Nat.{zero-add, zero-mul, add-zero, mul-le-mul_right}
use native.Mathlib.Omega.{arith}
use mathlib.Core.Path.{◌≡◌, ap, ◌∙◌}
use mathlib.Core.List.{List}
use borrow.Author.Tests.{le-leb, lt-leb, lt-ltb, le-ltb}
use lib.Arith.{digits_lt}
use lib.ListN.{length, get_or, replicate, length-replicate, get_or-replicate}
use Rattle.chip.specs.declared.mode.Mode.{Mode}
use Rattle.chip.proofs.Laws.Ranges.{and-false}
use Rattle.planes.specs.Cells.{cells_in, cell_width, margin, cell_of, plane_of}
use Rattle.planes.specs.Plane.{pick, no_cell, plane_colour}
use Rattle.planes.specs.Counted.{Counted}
use Rattle.planes.specs.Painted.{Painted}
use Rattle.chip.specs.Lists.{tabulate}
use Rattle.fetches.specs.Fetch.{value}
use Rattle.fetches.proofs.Laws.{get_d-each}
use Rattle.planes.proofs.Laws.Cells.{columns-within}
use Rattle.planes.proofs.Laws.Painted.{Shown, shown-more, shown-all}
use Rattle.planes.proofs.Counted.{counted}
use Rattle.planes.specs.declared.cell.Cell.{Cell}

module _ (m : Mode) (cells : List Cell) where
  -- at pixel k of cell i, counted
  pub in_cell : (x i k : ℕ) → Counted m x i k → plane_colour m cells x ≡ pick (get_or cells i no_cell) k
  unfolding plane_colour
  in_cell x i k c =
      let p = counted m x i k c in
      let above : margin m ≤ x = omega (arith, c.column) in
      let below : x < margin m + cells_in m * cell_width m = omega (arith, c.column, digits_lt {c = cell_width m} c.cell c.pixel) in
      rw (le-leb _ _ above, lt-ltb _ _ below, ← p.0, ← p.1)

  pub left-of-cells : (x : ℕ) → x < margin m → plane_colour m cells x ≡ 0
  unfolding plane_colour
  left-of-cells x h = rw (lt-leb _ _ h)

  pub right-of-cells : (x : ℕ) → margin m + cells_in m * cell_width m ≤ x → plane_colour m cells x ≡ 0
  unfolding plane_colour
  right-of-cells x h = rw (le-ltb _ _ h, and-false)

-- cell i of all that were read
pub cell-read : (m : Mode) (r : List ℕ) (l : ℕ) (vram : List ℕ) (i : ℕ) → i < cells_in m → get_or (value (plane_of m r l) vram) i no_cell ≡ value (cell_of m r l i) vram
cell-read m r l vram i h = get_d-each (cell_of m r l) vram 0 (cells_in m) i no_cell h ∙ ap (λ (j : ℕ). value (cell_of m r l j) vram) (zero-add i)

-- Bytes that go by the plane's colour: f gives the byte of a colour, and that of colour 0 stands where there is no pattern.
abbrev pub by_plane : (ℕ → ℕ) → Mode → List ℕ → ℕ → List ℕ → ℕ → ℕ
by_plane f m r l vram x = f (plane_colour m (value (plane_of m r l) vram) x)

-- A line of them as it is painted: the cells before cell i are there.
pub record ShownCells (f : ℕ → ℕ) (m : Mode) (r : List ℕ) (l : ℕ) (vram line : List ℕ) (i : ℕ) : Type 0 where
  pub shown : Shown line (by_plane f m r l vram) (f 0) (margin m + i * cell_width m)

module _ {f : ℕ → ℕ} {m : Mode} {r : List ℕ} {l : ℕ} {vram : List ℕ} where
  pub shown-none : {line : List ℕ} {n : ℕ} → n ≡ 256 → line ≡ replicate n (f 0) → ShownCells f m r l vram line 0
  shown-none {line} {n} long same =
      let e : line ≡ replicate 256 (f 0) = rw long at same in
      record {
        shown =
            rw (zero-mul, add-zero)
            (record {
              long = ap length e ∙ length-replicate 256 (f 0);
              done = λ x h. rw (e, left-of-cells m (value (plane_of m r l) vram) x h) (get_or-replicate 256 x (f 0) 0 (omega (arith, columns-within m)));
              rest = λ x h below. rw e (get_or-replicate 256 x (f 0) 0 below);
            });
      }

  -- one cell more
  pub shown-cell : {line new : List ℕ} {i : ℕ} → i < cells_in m → ShownCells f m r l vram line i → Painted new line (margin m + i * cell_width m) (cell_width m) (λ k. f (pick (value (cell_of m r l i) vram) k)) → ShownCells f m r l vram new (i + 1)
  shown-cell {line} {new} {i} h s p = record { shown = rw next (shown-more same s.shown p) }
    where
      next : margin m + (i + 1) * cell_width m ≡ margin m + i * cell_width m + cell_width m
      next = omega arith

      same : (k : ℕ) → k < cell_width m → f (pick (value (cell_of m r l i) vram) k) ≡ by_plane f m r l vram (margin m + i * cell_width m + k)
      same k hk =
          let c : Counted m (margin m + i * cell_width m + k) i k = record { cell = h; pixel = hk; column = omega arith } in
          rw (in_cell m (value (plane_of m r l) vram) (margin m + i * cell_width m + k) i k c, cell-read m r l vram i h)

  -- all cells
  pub shown-plane : {line : List ℕ} {i : ℕ} → cells_in m ≤ i → ShownCells f m r l vram line i → line ≡ tabulate 256 (by_plane f m r l vram)
  shown-plane {line} {i} all s =
      shown-all {behind = f 0} (λ x h. rw (right-of-cells m (value (plane_of m r l) vram) x (omega (arith, mul-le-mul_right (cell_width m) all)))) s.shown
