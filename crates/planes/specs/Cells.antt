-- What a line of the pattern plane reads, by the mode's table. Quotients are whole.
use Rattle.std.specs.Prelude.{ℕ, ◌+◌, ◌*◌, ◌/◌, ◌%◌, List}
use Rattle.chip.specs.State.{register}
use Rattle.chip.specs.Tables.{names, patterns, colours, base}
use Rattle.chip.specs.declared.mode.Mode.{Mode}
use Rattle.chip.specs.declared.mode.Mode.TheVariants.{Blank, GraphicsI, GraphicsII, Multicolor, Text}
use Rattle.fetches.specs.Fetch.{Fetch, answer, fetch, each}
use Rattle.planes.specs.declared.cell.Cell.{Cell}

-- How many cells a line has, and how many pixels wide a cell is. A blank line has no cells.
abbrev pub cells_in : Mode → ℕ
cells_in Blank = 0
cells_in GraphicsI = 32
cells_in GraphicsII = 32
cells_in Multicolor = 32
cells_in Text = 40

abbrev pub cell_width : Mode → ℕ
cell_width Blank = 8
cell_width GraphicsI = 8
cell_width GraphicsII = 8
cell_width Multicolor = 8
cell_width Text = 6

-- The first column with a pattern.
abbrev pub margin : Mode → ℕ
margin Blank = 0
margin GraphicsI = 0
margin GraphicsII = 0
margin Multicolor = 0
margin Text = 8

-- Where the name of cell i of line l stands.
unfoldable pub name_address : Mode → List ℕ → ℕ → ℕ → ℕ
name_address m r l i = base m names r + (l / 8 * cells_in m + i)

-- Graphics II: the offset of a name's bytes into its two tables, each in three thirds.
abbrev pub offset_iI : ℕ → ℕ → ℕ
offset_iI l name = l / 64 * 2048 + 8 * name + l % 8

-- Where the pattern byte of a name stands on line l; in Multicolor the byte with its two colours.
unfoldable pub pattern_address : Mode → List ℕ → ℕ → ℕ → ℕ
pattern_address Blank r l name = 0
pattern_address GraphicsI r l name = base GraphicsI patterns r + (8 * name + l % 8)
pattern_address GraphicsII r l name = base GraphicsII patterns r + offset_iI l name
pattern_address Multicolor r l name = base Multicolor patterns r + (8 * name + l / 4 % 8)
pattern_address Text r l name = base Text patterns r + (8 * name + l % 8)

-- Where the byte with its two colours stands, in the modes that have a colour table.
unfoldable pub colour_address : Mode → List ℕ → ℕ → ℕ → ℕ
colour_address Blank r l name = 0
colour_address GraphicsI r l name = base GraphicsI colours r + name / 8
colour_address GraphicsII r l name = base GraphicsII colours r + offset_iI l name
colour_address Multicolor r l name = 0
colour_address Text r l name = 0

-- A pattern byte and a byte of colours, one after the other.
abbrev pub pattern_and_colours : Mode → List ℕ → ℕ → ℕ → Fetch Cell
pattern_and_colours m r l name =
    fetch (pattern_address m r l name) λ p. fetch (colour_address m r l name) λ k. answer (record { pattern = p; colours = k })

-- What is fetched for a name on line l. Text takes its colours from register 7. In Multicolor the high nibble is for the left
-- four pixels and the low one for the right: as under a pattern of four 1 bits and four 0 bits.
unfoldable pub shape_of : Mode → List ℕ → ℕ → ℕ → Fetch Cell
shape_of Blank r l name = answer (record { pattern = 0; colours = 0 })
shape_of GraphicsI r l name = pattern_and_colours GraphicsI r l name
shape_of GraphicsII r l name = pattern_and_colours GraphicsII r l name
shape_of Multicolor r l name = fetch (pattern_address Multicolor r l name) λ k. answer (record { pattern = 0xF0; colours = k })
shape_of Text r l name = fetch (pattern_address Text r l name) λ p. answer (record { pattern = p; colours = register 7 r })

-- Cell i of line l: its name, then what is fetched for it.
unfoldable pub cell_of : Mode → List ℕ → ℕ → ℕ → Fetch Cell
cell_of m r l i = fetch (name_address m r l i) (shape_of m r l)

-- All cells of line l.
abbrev pub plane_of : Mode → List ℕ → ℕ → Fetch (List Cell)
plane_of m r l = each 0 (cells_in m) (cell_of m r l)
