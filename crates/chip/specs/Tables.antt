-- The tables in VRAM that registers 2 to 6 place: where each begins, and how many of its bytes a mode can read.
use Rattle.std.specs.Prelude.{ℕ, ◌*◌, ◌/◌, List}
use Rattle.chip.specs.State.{register}
use Rattle.chip.specs.declared.mode.Mode.{Mode}
use Rattle.chip.specs.declared.mode.Mode.TheVariants.{Blank, GraphicsI, GraphicsII, Multicolor, Text}

pub data Table : Type 0 where
  names patterns colours attributes sprite_patterns : Table

-- Graphics II takes only the highest bit of registers 3 and 4.
abbrev pub pattern_base : Mode → ℕ → ℕ
pattern_base Blank r4 = r4 * 2048
pattern_base GraphicsI r4 = r4 * 2048
pattern_base GraphicsII r4 = r4 / 4 * 8192
pattern_base Multicolor r4 = r4 * 2048
pattern_base Text r4 = r4 * 2048

abbrev pub colour_base : Mode → ℕ → ℕ
colour_base Blank r3 = r3 * 64
colour_base GraphicsI r3 = r3 * 64
colour_base GraphicsII r3 = r3 / 128 * 8192
colour_base Multicolor r3 = r3 * 64
colour_base Text r3 = r3 * 64

abbrev pub base : Mode → Table → List ℕ → ℕ
base m names r = register 2 r * 1024
base m patterns r = pattern_base m (register 4 r)
base m colours r = colour_base m (register 3 r)
base m attributes r = register 5 r * 128
base m sprite_patterns r = register 6 r * 2048

-- A blank line reads nothing, Text no sprites, and Multicolor and Text no colour table.
abbrev pub size : Mode → Table → ℕ
size Blank t = 0
size GraphicsI names = 768
size GraphicsI patterns = 2048
size GraphicsI colours = 32
size GraphicsI attributes = 128
size GraphicsI sprite_patterns = 2048
size GraphicsII names = 768
size GraphicsII patterns = 6144
size GraphicsII colours = 6144
size GraphicsII attributes = 128
size GraphicsII sprite_patterns = 2048
size Multicolor names = 768
size Multicolor patterns = 2048
size Multicolor colours = 0
size Multicolor attributes = 128
size Multicolor sprite_patterns = 2048
size Text names = 960
size Text patterns = 2048
size Text colours = 0
size Text attributes = 0
size Text sprite_patterns = 0
