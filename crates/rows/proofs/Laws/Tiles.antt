-- The cells of a row as tiles, painted one after the other.
use Prim.Native.Nat.{ℕ, ◌+◌, ◌*◌, ◌≤◌, ◌<◌}
use native.Mathlib.Nat.{add_assoc, suc-mul}
use native.Mathlib.Numerals.{add-one}
use native.Mathlib.Omega.{arith}
use mathlib.Core.Path.{◌≡◌, ◌∙◌}
use mathlib.Core.List.{List}
use lib.ListN.{length}
use Rattle.chip.specs.declared.mode.Mode.{Mode}
use Rattle.chip.specs.declared.mode.Mode.TheVariants.{Blank, GraphicsI, GraphicsII, Multicolor, Text}
use Rattle.planes.specs.Cells.{cells_in, cell_width, margin}
use Rattle.rows.specs.Stripes.{Striped}
use Rattle.rows.proofs.Laws.Settled.{Settled, settled-more}

pub narrow : (m : Mode) → cell_width m ≤ 8
narrow Blank = omega arith
narrow GraphicsI = omega arith
narrow GraphicsII = omega arith
narrow Multicolor = omega arith
narrow Text = omega arith

-- Colours by line and column that show the tiles: pixel j of line k of tile i stands in its column.
abbrev pub Shows : Mode → (ℕ → ℕ → ℕ → ℕ) → (ℕ → ℕ → ℕ) → Type 0
Shows m tile colour = (i k j : ℕ) → i < cells_in m → k < 8 → j < cell_width m → tile i k j ≡ colour k (margin m + i * cell_width m + j)

-- The first n tiles: whatever colours show the tiles are settled as far.
pub record Tiled (m : Mode) (tile : ℕ → ℕ → ℕ → ℕ) (new old : List ℕ) (n : ℕ) : Type 0 where
  pub long : length new ≡ length old
  pub settled : (colour : ℕ → ℕ → ℕ) → Shows m tile colour → Settled old colour (margin m) → Settled new colour (margin m + n * cell_width m)

-- One tile more. Of a narrow cell's stripe the last columns do not count.
pub tiled-more : (m : Mode) {tile : ℕ → ℕ → ℕ → ℕ} {new now old : List ℕ} {n at : ℕ} → n < cells_in m → at ≡ margin m + n * cell_width m → Tiled m tile now old n → Striped new now at (tile n) → Tiled m tile new old (n + 1)
tiled-more m {tile} {new} {now} {old} {n} {at} h e t p =
    record {
      long = p.long ∙ t.long;
      settled =
          λ colour shows s.
          let behind : margin m + n * cell_width m + cell_width m ≡ margin m + (n + 1) * cell_width m = rw (add-one, suc-mul, add_assoc) in
          rw behind at (settled-more (cell_width m) (narrow m) (λ k j hk hj. shows n k j h hk hj) (t.settled colour shows s) (rw e at p));
    }
