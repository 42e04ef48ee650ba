-- What the pattern plane of a line fetches that is dirty, one table at a time.
use Rattle.std.specs.Prelude.{ℕ, ◌+◌, ◌*◌, ◌/◌, ◌%◌, ◌<◌, ◌≡◌, Bool, false, List, get_or}
use Rattle.chip.specs.Bits.{bit}
use Rattle.chip.specs.Map.{is_dirty}
use Rattle.chip.specs.Ranges.{any_below}
use Rattle.chip.specs.Tables.{Table, base, size}
use Rattle.chip.specs.declared.mode.Mode.{Mode}
use Rattle.chip.specs.declared.mode.Mode.TheVariants.{Blank, GraphicsI, GraphicsII, Multicolor, Text}
use Rattle.planes.specs.Cells.{cells_in, name_address, pattern_address, colour_address}

-- Eight answers as the bits of one byte.
abbrev pub ByteBits : ℕ → (ℕ → Bool) → Type 0
ByteBits byte is = (k : ℕ) → k < 8 → bit k byte ≡ is k

-- Whether one of the VRAM bytes is dirty whose bits are bytes from to from + n - 1 of the map.
abbrev pub part_dirty : List ℕ → ℕ → ℕ → Bool
part_dirty map from n = any_below (8 * n) (λ i. is_dirty map (8 * from + i))

-- Whether a byte of a table is dirty.
abbrev pub table_dirty : Mode → Table → List ℕ → List ℕ → Bool
table_dirty m t r map = any_below (size m t) (λ i. is_dirty map (base m t r + i))

-- Whether one of a line's names is dirty, the pattern byte of one of them, or its byte of colours.
abbrev pub names_dirty : Mode → List ℕ → List ℕ → ℕ → Bool
names_dirty m r map l = any_below (cells_in m) (λ i. is_dirty map (name_address m r l i))

abbrev pub patterns_dirty : Mode → List ℕ → List ℕ → List ℕ → ℕ → Bool
patterns_dirty m r vram map l = any_below (cells_in m) (λ i. is_dirty map (pattern_address m r l (get_or vram (name_address m r l i) 0)))

abbrev pub colour_dirty : Mode → List ℕ → List ℕ → ℕ → ℕ → Bool
colour_dirty Blank r map l name = false
colour_dirty GraphicsI r map l name = is_dirty map (colour_address GraphicsI r l name)
colour_dirty GraphicsII r map l name = is_dirty map (colour_address GraphicsII r l name)
colour_dirty Multicolor r map l name = false
colour_dirty Text r map l name = false

abbrev pub colours_dirty : Mode → List ℕ → List ℕ → List ℕ → ℕ → Bool
colours_dirty m r vram map l = any_below (cells_in m) (λ i. colour_dirty m r map l (get_or vram (name_address m r l i) 0))

-- Graphics II has tables in three thirds: how many bytes of the map lie before the third of a row of names.
abbrev pub third_of : Mode → ℕ → ℕ
third_of Blank row = 0
third_of GraphicsI row = 0
third_of GraphicsII row = row / 8 * 256
third_of Multicolor row = 0
third_of Text row = 0

-- Which of a name's eight pattern bytes line l shows.
abbrev pub byte_shown : Mode → ℕ → ℕ
byte_shown Blank l = l % 8
byte_shown GraphicsI l = l % 8
byte_shown GraphicsII l = l % 8
byte_shown Multicolor l = l / 4 % 8
byte_shown Text l = l % 8
