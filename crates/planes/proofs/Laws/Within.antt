-- Every byte that the pattern plane fetches lies within VRAM, in every mode.
use Prim.Native.Nat.{ℕ, ◌<◌}
use native.Mathlib.Omega.{arith}
use mathlib.Core.Path.{◌≡◌}
use mathlib.Core.Bool.{true}
use mathlib.Core.List.{List}
use Rattle.chip.specs.State.{vram_size, masked}
use Rattle.chip.specs.declared.mode.Mode.{Mode}
use Rattle.chip.specs.declared.mode.Mode.TheVariants.{Blank, GraphicsI, GraphicsII, Multicolor, Text}
use Rattle.fetches.proofs.Within.{Within, within-each}
use Rattle.planes.specs.Cells.{cells_in, pattern_and_colours, shape_of, cell_of, plane_of}
use Rattle.planes.proofs.Laws.Cells.{name-inside, pattern-inside, colours-inside}

module _ (r : List ℕ) (ok : masked r ≡ true) (l : ℕ) (h : l < 192) where
  both : (m : Mode) (name : ℕ) → name < 256 → Within vram_size (pattern_and_colours m r l name)
  unfolding Within
  both m name hn = (pattern-inside m r ok l h name hn, λ _ _. (colours-inside m r ok l h name hn, λ _ _. tt))

  shape-within : (m : Mode) (name : ℕ) → name < 256 → Within vram_size (shape_of m r l name)
  unfolding Within shape_of
  shape-within Blank name hn = tt
  shape-within GraphicsI name hn = both GraphicsI name hn
  shape-within GraphicsII name hn = both GraphicsII name hn
  shape-within Multicolor name hn = (pattern-inside Multicolor r ok l h name hn, λ _ _. tt)
  shape-within Text name hn = (pattern-inside Text r ok l h name hn, λ _ _. tt)

  cell-within : (m : Mode) (i : ℕ) → i < cells_in m → Within vram_size (cell_of m r l i)
  unfolding Within cell_of
  cell-within m i hi = (name-inside m r ok l h i hi, shape-within m)

  pub plane-within : (m : Mode) → Within vram_size (plane_of m r l)
  plane-within m = within-each vram_size (cell_of m r l) 0 (cells_in m) (λ j hj. cell-within m j (omega arith))
