-- The display modes, and the register bits that choose one.
use Rattle.std.specs.Prelude.{ℕ, Bool, true, false, cond, List}
use Rattle.chip.specs.Bits.{bit}
use Rattle.chip.specs.State.{register}
use Rattle.chip.specs.declared.mode.Mode.{Mode}
use Rattle.chip.specs.declared.mode.Mode.TheVariants.{Blank, GraphicsI, GraphicsII, Multicolor, Text}

-- Register 0 has M3 (hex 02) and external video (01).
abbrev pub m3 : List ℕ → Bool
m3 r = bit 1 (register 0 r)

abbrev pub external_video : List ℕ → Bool
external_video r = bit 0 (register 0 r)

-- Register 1 has display on (hex 40), M1 (10), M2 (08), sprite size (02) and magnify (01). (Interrupt enable, 20: see Ports.)
abbrev pub display_on : List ℕ → Bool
display_on r = bit 6 (register 1 r)

abbrev pub m1 : List ℕ → Bool
m1 r = bit 4 (register 1 r)

abbrev pub m2 : List ℕ → Bool
m2 r = bit 3 (register 1 r)

abbrev pub large_sprites : List ℕ → Bool
large_sprites r = bit 1 (register 1 r)

abbrev pub magnified : List ℕ → Bool
magnified r = bit 0 (register 1 r)

-- The mode by M1, M2 and M3. With two or more of them set the line is blank.
abbrev pub mode_by : Bool → Bool → Bool → Mode
mode_by false false false = GraphicsI
mode_by false false true = GraphicsII
mode_by false true false = Multicolor
mode_by true false false = Text
mode_by false true true = Blank
mode_by true false true = Blank
mode_by true true m3 = Blank

-- With the display off the line is blank too.
unfoldable pub mode_of : List ℕ → Mode
mode_of r = cond (display_on r) (mode_by (m1 r) (m2 r) (m3 r)) Blank
