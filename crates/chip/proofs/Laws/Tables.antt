-- Every table lies within VRAM, in every mode, because of the masks.
use Prim.Native.Nat.{ℕ, ◌+◌, ◌≤◌, ◌<◌}
use native.Mathlib.Omega.{arith}
use mathlib.Core.Path.{◌≡◌, subst}
use mathlib.Core.Bool.{true}
use mathlib.Core.List.{List}
use borrow.Author.Tests.{eqb-true}
use lib.Bits.{and_le_r}
use lib.Dec.{lit<}
use lib.ListN.{get_or}
use Rattle.chip.specs.State.{vram_size, masks, register, obeys, masked}
use Rattle.chip.specs.Tables.{Table, names, patterns, colours, attributes, sprite_patterns, base, size}
use Rattle.chip.specs.declared.mode.Mode.{Mode}
use Rattle.chip.specs.declared.mode.Mode.TheVariants.{Blank, GraphicsI, GraphicsII, Multicolor, Text}
use native.Mathlib.Nat.{not-suc-le-zero}
use Rattle.chip.proofs.Laws.Ranges.{each_holds}

-- a masked register is at most its mask
pub at-most-mask : (r : List ℕ) → masked r ≡ true → (n : ℕ) → n < 8 → register n r ≤ get_or masks n 0
unfolding masked
at-most-mask r ok n h =
    subst (λ (x : ℕ). x ≤ get_or masks n 0) (eqb-true _ _ (each_holds 8 (obeys r) ok n h)) (and_le_r (register n r) (get_or masks n 0))

-- Every byte of every table that a mode reads lies within VRAM.
pub inside : (m : Mode) (t : Table) (r : List ℕ) → masked r ≡ true → (i : ℕ) → i < size m t → base m t r + i < vram_size
inside Blank t r ok i h = absurd (not-suc-le-zero h)
inside GraphicsI names r ok i h = omega (arith, at-most-mask r ok 2 (lit< tt))
inside GraphicsI patterns r ok i h = omega (arith, at-most-mask r ok 4 (lit< tt))
inside GraphicsI colours r ok i h = omega (arith, at-most-mask r ok 3 (lit< tt))
inside GraphicsI attributes r ok i h = omega (arith, at-most-mask r ok 5 (lit< tt))
inside GraphicsI sprite_patterns r ok i h = omega (arith, at-most-mask r ok 6 (lit< tt))
inside GraphicsII names r ok i h = omega (arith, at-most-mask r ok 2 (lit< tt))
inside GraphicsII patterns r ok i h = omega (arith, at-most-mask r ok 4 (lit< tt))
inside GraphicsII colours r ok i h = omega (arith, at-most-mask r ok 3 (lit< tt))
inside GraphicsII attributes r ok i h = omega (arith, at-most-mask r ok 5 (lit< tt))
inside GraphicsII sprite_patterns r ok i h = omega (arith, at-most-mask r ok 6 (lit< tt))
inside Multicolor names r ok i h = omega (arith, at-most-mask r ok 2 (lit< tt))
inside Multicolor patterns r ok i h = omega (arith, at-most-mask r ok 4 (lit< tt))
inside Multicolor colours r ok i h = absurd (not-suc-le-zero h)
inside Multicolor attributes r ok i h = omega (arith, at-most-mask r ok 5 (lit< tt))
inside Multicolor sprite_patterns r ok i h = omega (arith, at-most-mask r ok 6 (lit< tt))
inside Text names r ok i h = omega (arith, at-most-mask r ok 2 (lit< tt))
inside Text patterns r ok i h = omega (arith, at-most-mask r ok 4 (lit< tt))
inside Text colours r ok i h = absurd (not-suc-le-zero h)
inside Text attributes r ok i h = absurd (not-suc-le-zero h)
inside Text sprite_patterns r ok i h = absurd (not-suc-le-zero h)
