-- Where a line's names, patterns and colours stand, and how wide its cells are.
use Prim.Native.Nat.{ℕ, ◌+◌, ◌*◌, ◌/◌, ◌<◌}
use native.Mathlib.Nat.{not-suc-le-zero}
use native.Mathlib.Omega.{arith}
use mathlib.Core.Path.{◌≡◌}
use mathlib.Core.Bool.{true}
use mathlib.Core.List.{List}
use lib.Dec.{lit<}
use Rattle.chip.specs.State.{vram_size, masked}
use Rattle.chip.specs.Tables.{names, patterns, colours, size}
use Rattle.chip.proofs.Laws.Tables.{inside}
use Rattle.chip.specs.declared.mode.Mode.{Mode}
use Rattle.chip.specs.declared.mode.Mode.TheVariants.{Blank, GraphicsI, GraphicsII, Multicolor, Text}
use Rattle.planes.specs.Cells.{cells_in, cell_width, margin, name_address, pattern_address, colour_address}

-- a cell's name is one of its name table's
pub name-within : (m : Mode) (l i : ℕ) → l < 192 → i < cells_in m → l / 8 * cells_in m + i < size m names
name-within Blank l i hl hi = absurd (not-suc-le-zero hi)
name-within GraphicsI l i hl hi = omega arith
name-within GraphicsII l i hl hi = omega arith
name-within Multicolor l i hl hi = omega arith
name-within Text l i hl hi = omega arith

-- Every address of a cell is below 16,384, in every mode.
pub name-inside : (m : Mode) (r : List ℕ) → masked r ≡ true → (l : ℕ) → l < 192 → (i : ℕ) → i < cells_in m → name_address m r l i < vram_size
unfolding name_address
name-inside m r ok l hl i hi = inside m names r ok (l / 8 * cells_in m + i) (name-within m l i hl hi)

pub pattern-inside : (m : Mode) (r : List ℕ) → masked r ≡ true → (l : ℕ) → l < 192 → (name : ℕ) → name < 256 → pattern_address m r l name < vram_size
unfolding pattern_address
pattern-inside Blank r ok l hl n hn = lit< tt
pattern-inside GraphicsI r ok l hl n hn = inside GraphicsI patterns r ok _ (omega arith)
pattern-inside GraphicsII r ok l hl n hn = inside GraphicsII patterns r ok _ (omega arith)
pattern-inside Multicolor r ok l hl n hn = inside Multicolor patterns r ok _ (omega arith)
pattern-inside Text r ok l hl n hn = inside Text patterns r ok _ (omega arith)

pub colours-inside : (m : Mode) (r : List ℕ) → masked r ≡ true → (l : ℕ) → l < 192 → (name : ℕ) → name < 256 → colour_address m r l name < vram_size
unfolding colour_address
colours-inside Blank r ok l hl n hn = lit< tt
colours-inside GraphicsI r ok l hl n hn = inside GraphicsI colours r ok _ (omega arith)
colours-inside GraphicsII r ok l hl n hn = inside GraphicsII colours r ok _ (omega arith)
colours-inside Multicolor r ok l hl n hn = lit< tt
colours-inside Text r ok l hl n hn = lit< tt

-- the columns of the cells end within the line
pub columns-within : (m : Mode) → margin m + cells_in m * cell_width m < 257
columns-within Blank = omega arith
columns-within GraphicsI = omega arith
columns-within GraphicsII = omega arith
columns-within Multicolor = omega arith
columns-within Text = omega arith

-- where a cell's bytes stand
pub ruleset addresses = (name-inside, pattern-inside, colours-inside)
