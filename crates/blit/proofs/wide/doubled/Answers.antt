-- `doubled` meets its contract: a test of every byte, which antt computes.
use Prim.Native.Nat.{ℕ, ◌*◌, ◌/◌, ◌%◌, ◌^◌, ◌<◌}
use native.Mathlib.Omega.{arith}
use mathlib.Core.Path.{◌≡◌, refl, ap}
use mathlib.Core.Bool.{Bool, true, ◌&&◌}
use borrow.Author.Tests.{ltb-true, eqb-true}
use lib.Bits.{bit_and, bit_or}
use lib.Dec.{eqb, ltb}
use Rattle.chip.specs.Bits.{bit}
use Rattle.chip.specs.Ranges.{all_below}
use Rattle.chip.proofs.Laws.Ranges.{and_left, and_right, each_holds}
use Rattle.blit.proofs.wide.doubled.Goals as goal

-- the bits drawn apart, and then each as often as times says
abbrev apart : ℕ → ℕ → ℕ → ℕ
apart n by mask = bit_and (bit_or n (n * by % 2 ^ 32)) mask

abbrev repeated_bits : ℕ → ℕ → ℕ
repeated_bits times byte = apart (apart (apart byte 16 3855) 4 13107) 2 21845 * times

abbrev twice : ℕ → ℕ → Bool
twice byte d = all_below 16 (λ k. eqb (d / 2 ^ k % 2) (byte / 2 ^ (k / 2) % 2))

abbrev right : ℕ → ℕ → Bool
right times byte = ltb (repeated_bits times byte) 65536 && twice byte (repeated_bits times byte)

module _ (times : ℕ) (test : all_below 256 (right times) ≡ true) (byte : ℕ) (h : byte < 256) where
  abbrev d : ℕ
  d = repeated_bits times byte

  small : d < 65536
  small = ltb-true d 65536 (and_left (ltb d 65536) (twice byte d) (each_holds 256 (right times) test byte h))

  fits : d < 2 ^ 32
  fits = omega (arith, small)

  each-bit : (k : ℕ) → k < 16 → bit k d ≡ bit (k / 2) byte
  each-bit k below =
      let same = each_holds 16 (λ j. eqb (d / 2 ^ j % 2) (byte / 2 ^ (j / 2) % 2)) (and_right (ltb d 65536) (twice byte d) (each_holds 256 (right times) test byte h)) k below in
      ap (λ (n : ℕ). eqb n 1) (eqb-true (d / 2 ^ k % 2) (byte / 2 ^ (k / 2) % 2) same)

pub returns-clause-by_index : goal.returns-clause-by_index
returns-clause-by_index c =
    each-bit _ refl c.args.byte (omega arith)
