-- The second line for a point: where its colour comes from, with the address of the sprite's attributes or those of the cell's
-- bytes.
use Rattle.std.specs.Prelude.{ℕ, cond, List, [], ◌∷◌, ◌++◌, eqb, ltb}
use Rattle.chip.specs.Modes.{mode_of}
use Rattle.chip.specs.declared.mode.Mode.{Mode}
use Rattle.chip.specs.declared.mode.Mode.TheVariants.{Blank, GraphicsI, GraphicsII, Multicolor, Text}
use Rattle.planes.specs.Addresses.{addresses_at}
use Rattle.planes.specs.Origin.{origin_code}
use Rattle.planes.specs.declared.addresses.CellAddresses.{CellAddresses}
use Rattle.planes.specs.declared.origin.Origin.TheVariants.{Pattern, Backdrop, Black}
use Rattle.sprites.specs.Scan.{attribute_address}
use Rattle.text.specs.Numbers.{long_decimal}

-- `sprite ` and `, attributes at `
abbrev pub sprite : List ℕ
sprite = 115 ∷ 112 ∷ 114 ∷ 105 ∷ 116 ∷ 101 ∷ 32 ∷ []

abbrev pub attributes_at : List ℕ
attributes_at = 44 ∷ 32 ∷ 97 ∷ 116 ∷ 116 ∷ 114 ∷ 105 ∷ 98 ∷ 117 ∷ 116 ∷ 101 ∷ 115 ∷ 32 ∷ 97 ∷ 116 ∷ 32 ∷ []

-- `pattern plane, name at `, `, pattern at ` and `, colours at `
abbrev pub name_at : List ℕ
name_at =
    112 ∷ 97 ∷ 116 ∷ 116 ∷ 101 ∷ 114 ∷ 110 ∷ 32 ∷
    112 ∷ 108 ∷ 97 ∷ 110 ∷ 101 ∷ 44 ∷ 32 ∷
    110 ∷ 97 ∷ 109 ∷ 101 ∷ 32 ∷ 97 ∷ 116 ∷ 32 ∷ []

abbrev pub pattern_at : List ℕ
pattern_at = 44 ∷ 32 ∷ 112 ∷ 97 ∷ 116 ∷ 116 ∷ 101 ∷ 114 ∷ 110 ∷ 32 ∷ 97 ∷ 116 ∷ 32 ∷ []

abbrev pub colours_at : List ℕ
colours_at = 44 ∷ 32 ∷ 99 ∷ 111 ∷ 108 ∷ 111 ∷ 117 ∷ 114 ∷ 115 ∷ 32 ∷ 97 ∷ 116 ∷ 32 ∷ []

-- `, colours in register 7` and `backdrop, register 7`
abbrev pub register_colours : List ℕ
register_colours =
    44 ∷ 32 ∷ 99 ∷ 111 ∷ 108 ∷ 111 ∷ 117 ∷ 114 ∷ 115 ∷ 32 ∷
    105 ∷ 110 ∷ 32 ∷
    114 ∷ 101 ∷ 103 ∷ 105 ∷ 115 ∷ 116 ∷ 101 ∷ 114 ∷ 32 ∷ 55 ∷ []

abbrev pub backdrop : List ℕ
backdrop =
    98 ∷ 97 ∷ 99 ∷ 107 ∷ 100 ∷ 114 ∷ 111 ∷ 112 ∷ 44 ∷ 32 ∷
    114 ∷ 101 ∷ 103 ∷ 105 ∷ 115 ∷ 116 ∷ 101 ∷ 114 ∷ 32 ∷ 55 ∷ []

-- `black by default` and `external video`
abbrev pub by_default : List ℕ
by_default = 98 ∷ 108 ∷ 97 ∷ 99 ∷ 107 ∷ 32 ∷ 98 ∷ 121 ∷ 32 ∷ 100 ∷ 101 ∷ 102 ∷ 97 ∷ 117 ∷ 108 ∷ 116 ∷ []

abbrev pub external : List ℕ
external = 101 ∷ 120 ∷ 116 ∷ 101 ∷ 114 ∷ 110 ∷ 97 ∷ 108 ∷ 32 ∷ 118 ∷ 105 ∷ 100 ∷ 101 ∷ 111 ∷ []

-- Words, and the number behind them.
abbrev pub labelled : List ℕ → ℕ → List ℕ
labelled words n = words ++ long_decimal n

-- Sprite n, and where its attributes begin.
unfoldable pub sprite_text : List ℕ → ℕ → List ℕ
sprite_text r n = labelled sprite n ++ labelled attributes_at (attribute_address r n 0)

abbrev pub pattern_then_colours : CellAddresses → List ℕ
pattern_then_colours a = labelled pattern_at a.pattern ++ labelled colours_at a.colours

-- What a cell has behind its name. Multicolor's one byte is its colours, and Text has one pair of colours for all cells.
unfoldable pub tables_text : Mode → CellAddresses → List ℕ
tables_text Blank a = []
tables_text GraphicsI a = pattern_then_colours a
tables_text GraphicsII a = pattern_then_colours a
tables_text Multicolor a = labelled colours_at a.pattern
tables_text Text a = labelled pattern_at a.pattern ++ register_colours

-- The cell of line l that holds column x.
unfoldable pub plane_text : List ℕ → List ℕ → ℕ → ℕ → List ℕ
plane_text r vram l x =
    let a = addresses_at (mode_of r) r l x vram in
    labelled name_at a.name ++ tables_text (mode_of r) a

-- The origin by its code: a sprite's is its number.
unfoldable pub source_text : List ℕ → List ℕ → ℕ → ℕ → ℕ → List ℕ
source_text r vram l x code =
    cond (ltb code 32) (sprite_text r code)
    (cond (eqb code (origin_code Pattern)) (plane_text r vram l x)
    (cond (eqb code (origin_code Backdrop)) backdrop
    (cond (eqb code (origin_code Black)) by_default
    external)))

unfoldable pub origin_text : List ℕ → List ℕ → ℕ → ℕ → ℕ → List ℕ
origin_text r vram l x code = source_text r vram l x code ++ (10 ∷ [])
