-- The addresses given for the cell that holds a column are those that are fetched for it.
use Prim.Native.Nat.{ℕ}
use mathlib.Core.Path.{◌≡◌, refl}
use mathlib.Core.Bool.{true}
use mathlib.Core.List.{List, [], ◌∷◌}
use Rattle.chip.specs.declared.mode.Mode.{Mode}
use Rattle.chip.specs.declared.mode.Mode.TheVariants.{Blank, GraphicsI, GraphicsII, Multicolor, Text}
use Rattle.fetches.specs.Fetch.{fetched}
use Rattle.planes.specs.Addresses.{addresses_of, addresses_at}
use Rattle.planes.specs.Cells.{shape_of, cell_of}
use Rattle.planes.specs.Plane.{in_cells, cell_holding}
use Rattle.planes.specs.declared.addresses.CellAddresses.{CellAddresses}

-- Which of them a mode fetches, in order. (A blank line has no cells.)
abbrev pub fetched_in : Mode → CellAddresses → List ℕ
fetched_in Blank a = a.name ∷ []
fetched_in GraphicsI a = a.name ∷ a.pattern ∷ a.colours ∷ []
fetched_in GraphicsII a = a.name ∷ a.pattern ∷ a.colours ∷ []
fetched_in Multicolor a = a.name ∷ a.pattern ∷ []
fetched_in Text a = a.name ∷ a.pattern ∷ []

of-cell : (m : Mode) (r : List ℕ) (l i : ℕ) (vram : List ℕ) → fetched (cell_of m r l i) vram ≡ fetched_in m (addresses_of m r l i vram)
unfolding fetched shape_of cell_of
of-cell Blank r l i vram = refl
of-cell GraphicsI r l i vram = refl
of-cell GraphicsII r l i vram = refl
of-cell Multicolor r l i vram = refl
of-cell Text r l i vram = refl

pub as-fetched : (m : Mode) (r : List ℕ) (l x : ℕ) (vram : List ℕ) → in_cells m x ≡ true → fetched (cell_holding m r l x) vram ≡ fetched_in m (addresses_at m r l x vram)
unfolding addresses_at
as-fetched m r l x vram e = rw e (of-cell m r l _ vram)
