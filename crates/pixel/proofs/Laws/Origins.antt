-- How long an origin's text is at most.
use Prim.Native.Nat.{ℕ, ◌≤◌}
use native.Mathlib.Omega.{arith}
use mathlib.Core.Bool.{Bool, true, false, cond}
use mathlib.Core.List.{List}
use lib.Dec.{eqb, ltb}
use lib.ListN.{length, take, drop, length-append, take-append-drop}
use Rattle.chip.specs.Modes.{mode_of}
use Rattle.chip.specs.declared.mode.Mode.{Mode}
use Rattle.chip.specs.declared.mode.Mode.TheVariants.{Blank, GraphicsI, GraphicsII, Multicolor, Text}
use Rattle.planes.specs.Addresses.{addresses_at}
use Rattle.planes.specs.declared.addresses.CellAddresses.{CellAddresses}
use Rattle.sprites.specs.Scan.{attribute_address}
use Rattle.text.proofs.Laws.Numbers.{length-long}
use Rattle.text.proofs.Laws.Put.{Put, put-put}
use Rattle.pixel.specs.Origins.{sprite, attributes_at, name_at, pattern_at, colours_at, register_colours, backdrop, by_default, external, labelled, sprite_text, pattern_then_colours, tables_text, plane_text, source_text}

sprite-short : (r : List ℕ) (n : ℕ) → length (sprite_text r n) ≤ 40
unfolding sprite_text
sprite-short r n =
    let address = attribute_address r n 0 in
    omega (arith, length-append (labelled sprite n) (labelled attributes_at address), length-long n, length-long address)

two-short : (a : CellAddresses) → length (pattern_then_colours a) ≤ 40
two-short a =
    omega (arith, length-append (labelled pattern_at a.pattern) (labelled colours_at a.colours), length-long a.pattern, length-long a.colours)

tables-short : (m : Mode) (a : CellAddresses) → length (tables_text m a) ≤ 48
unfolding tables_text
tables-short Blank a = omega arith
tables-short GraphicsI a = omega (arith, two-short a)
tables-short GraphicsII a = omega (arith, two-short a)
tables-short Multicolor a = omega (arith, length-long a.pattern)
tables-short Text a = omega (arith, length-append (labelled pattern_at a.pattern) register_colours, length-long a.pattern)

plane-short : (r vram : List ℕ) (l x : ℕ) → length (plane_text r vram l x) ≤ 79
unfolding plane_text
plane-short r vram l x =
    let a = addresses_at (mode_of r) r l x vram in
    omega (arith, length-append (labelled name_at a.name) (tables_text (mode_of r) a), length-long a.name, tables-short (mode_of r) a)

module _ (r vram : List ℕ) (l x code : ℕ) where
  pub source-short : length (source_text r vram l x code) ≤ 79
  unfolding source_text
  source-short = by (ltb code 32) (eqb code 32) (eqb code 33) (eqb code 34)
    where
      by : (a b c d : Bool) → length (cond a (sprite_text r code) (cond b (plane_text r vram l x) (cond c backdrop (cond d by_default external)))) ≤ 79
      by true b c d = omega (arith, sprite-short r code)
      by false true c d = plane-short r vram l x
      by false false true d = omega arith
      by false false false true = omega arith
      by false false false false = omega arith

-- one text behind another, and how long they are
pub ruleset texts = (put-put, length-long, length-append, source-short)
