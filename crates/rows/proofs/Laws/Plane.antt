-- The pattern plane of a row, as it is painted cell by cell.
use Prim.Native.Nat.{ℕ, ◌+◌, ◌*◌, ◌<◌, zero-le}
use native.Mathlib.Nat.{add_assoc}
use native.Mathlib.Omega.{arith}
use mathlib.Core.Path.{◌≡◌, refl, ap, ◌∙◌}
use mathlib.Core.Bool.{Bool, true, false, cond}
use mathlib.Core.List.{List}
use lib.Dec.{ltb}
use lib.ListN.{length, get_or, replicate, length-replicate, get_or-replicate}
use Rattle.chip.specs.Lists.{tabulate}
use Rattle.chip.specs.declared.mode.Mode.{Mode}
use Rattle.chip.specs.declared.mode.Mode.TheVariants.{Blank}
use Rattle.chip.proofs.Laws.Lists.{tabulated}
use Rattle.fetches.specs.Fetch.{value}
use Rattle.planes.specs.Cells.{cells_in, cell_width, margin, cell_of, plane_of}
use Rattle.planes.specs.Counted.{Counted}
use Rattle.planes.specs.Pixel.{over, behind_planes}
use Rattle.planes.specs.Plane.{pick, plane_colour}
use Rattle.planes.proofs.Laws.Plane.{in_cell, right-of-cells, cell-read}
use Rattle.words.specs.Words.{byte_of}
use Rattle.rows.specs.Rows.{plane_pixel, plane_row, Paints}
use Rattle.rows.specs.Stripes.{Striped}
use Rattle.rows.proofs.Laws.Settled.{Settled, settled-more, settled-all}
use Rattle.rows.proofs.Laws.Tiles.{Tiled, narrow}

-- Column x of line k of the row's eight.
abbrev pub row_pixel : Mode → List ℕ → List ℕ → ℕ → ℕ → ℕ → ℕ
row_pixel m r vram row k x = plane_pixel m r vram (8 * row + k) x

-- What stands behind shows on blank lines, whatever line and column a byte is for.
pub blank_part : {part : List ℕ} (n : ℕ) (r vram : List ℕ) (l x : ℕ → ℕ) → part ≡ replicate n (behind_planes r) → part ≡ tabulate n (λ i. plane_pixel Blank r vram (l i) (x i))
blank_part {part} n r vram l x e =
    tabulated (ap length e ∙ length-replicate n (behind_planes r))
    (λ i h. rw (e, right-of-cells Blank (value (plane_of Blank r (l i)) vram) (x i) zero-le) (get_or-replicate n i (behind_planes r) 0 h))

module _ (m : Mode) (r vram : List ℕ) where
  -- pixel j of cell i stands in its column
  pub cell-pixel : (l i j : ℕ) → i < cells_in m → j < cell_width m → over (pick (value (cell_of m r l i) vram) j) (behind_planes r) ≡ plane_pixel m r vram l (margin m + i * cell_width m + j)
  cell-pixel l i j hi hj =
      let c : Counted m (margin m + i * cell_width m + j) i j = record { cell = hi; pixel = hj; column = add_assoc (margin m) (i * cell_width m) j } in
      rw (in_cell m (value (plane_of m r l) vram) (margin m + i * cell_width m + j) i j c, cell-read m r l vram i hi)

  -- a column without a cell shows the paint of colour 0
  pub margin-pixel : {paints : List ℕ} → Paints r paints → (l x j : ℕ) → j < 8 → plane_colour m (value (plane_of m r l) vram) x ≡ 0 → byte_of j (get_or paints 0 0) ≡ plane_pixel m r vram l x
  margin-pixel paint l x j h none = rw none (paint.paint 0 (omega arith) j h)

module _ (m : Mode) (r vram : List ℕ) (row : ℕ) where
  -- All cells, where the tiles show what the cells do.
  pub settled-cells : {part old : List ℕ} {tile : ℕ → ℕ → ℕ → ℕ} → Tiled m tile part old (cells_in m) → ((i k j : ℕ) → i < cells_in m → k < 8 → j < 8 → tile i k j ≡ over (pick (value (cell_of m r (8 * row + k) i) vram) j) (behind_planes r)) → Settled old (row_pixel m r vram row) (margin m) → Settled part (row_pixel m r vram row) (margin m + cells_in m * cell_width m)
  settled-cells t same s = t.settled _ (λ i k j hi hk hj. let wide = narrow m in same i k j hi hk (omega arith) ∙ cell-pixel m r vram (8 * row + k) i j hi hj) s

  -- Eight columns without a cell.
  pub settled-margin : {new old paints : List ℕ} {at : ℕ} → Paints r paints → ((k j : ℕ) → k < 8 → j < 8 → plane_colour m (value (plane_of m r (8 * row + k)) vram) (at + j) ≡ 0) → Settled old (row_pixel m r vram row) at → Striped new old at (λ k j. cond (ltb k 4) (byte_of j (get_or paints 0 0)) (byte_of j (get_or paints 0 0))) → Settled new (row_pixel m r vram row) (at + 8)
  settled-margin {new} {old} {paints} {at} paint none s p = settled-more 8 (omega arith) (λ k j hk hj. one j (ltb k 4) ∙ margin-pixel m r vram paint (8 * row + k) (at + j) j hj (none k j hk hj)) s p
    where
      one : (j : ℕ) (b : Bool) → cond b (byte_of j (get_or paints 0 0)) (byte_of j (get_or paints 0 0)) ≡ byte_of j (get_or paints 0 0)
      one j true = refl
      one j false = refl

  pub all_settled : {part : List ℕ} → Settled part (row_pixel m r vram row) 256 → part ≡ plane_row m r vram row
  all_settled s = settled-all {colour = row_pixel m r vram row} s
