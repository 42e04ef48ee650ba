-- A row of 32 bits that is shifted left: its first bits are lost.
use Prim.Native.Nat.{ℕ, suc, ◌+◌, ◌-◌, ◌*◌, ◌/◌, ◌%◌, ◌^◌, ◌≤◌, ◌<◌}
use native.Mathlib.Decide.{dec_lt}
use native.Mathlib.Omega.{arith}
use mathlib.Core.Path.{◌≡◌, sym, ap, ◌∙◌}
use mathlib.Core.Bool.{not, ◌&&◌}
use borrow.Author.Tests.{lt-ltb, le-ltb}
use lib.Bits.{bit_and, and_le_r}
use lib.Dec.{eqb, ltb}
use lib.Pow.{shr-shr}
use Rattle.chip.specs.Bits.{bit}
use Rattle.chip.specs.Ranges.{any_below}
use Rattle.chip.proofs.Laws.Bits.{bit-and, bit_kept, bit_shifted, bit_below, any-bit}
use Rattle.chip.proofs.Laws.Ranges.{any_same}

-- a bit of the upper part of a number
pub bit-upper : (j k n : ℕ) → bit k (n / 2 ^ j) ≡ bit (j + k) n
bit-upper j k n = ap (λ (m : ℕ). eqb (m % 2) 1) (shr-shr n j k)

-- the bit that a shifted row has at a column
pub bit_moved : (row d k : ℕ) → k < 32 → bit (31 - k) (row * 2 ^ d % 2 ^ 32) ≡ (ltb (k + d) 32 && bit (31 - (k + d)) row)
bit_moved row d k h = cut ∙ by (dec_lt (k + d) 32)
  where
    cut : bit (31 - k) (row * 2 ^ d % 2 ^ 32) ≡ bit (31 - k) (row * 2 ^ d)
    cut =
        let e : 32 ≡ k + 1 + (31 - k) = omega arith in
        ap (λ (n : ℕ). bit (31 - k) (row * 2 ^ d % 2 ^ n)) e ∙ bit_kept k (31 - k) (row * 2 ^ d)

    by : Dec (k + d < 32) → bit (31 - k) (row * 2 ^ d) ≡ (ltb (k + d) 32 && bit (31 - (k + d)) row)
    by (yes i) =
        let place : 31 - k ≡ d + (31 - (k + d)) = omega arith in
        ap (λ (j : ℕ). bit j (row * 2 ^ d)) place ∙ bit_shifted d (31 - (k + d)) row ∙ sym (rw (lt-ltb (k + d) 32 i))
    by (no o) =
        let place : d ≡ suc (d - (32 - k)) + (31 - k) = omega arith in
        let out : 32 ≤ k + d = omega arith in
        ap (λ (n : ℕ). bit (31 - k) (row * 2 ^ n)) place ∙ bit_below (d - (32 - k)) (31 - k) row ∙ sym (rw (le-ltb (k + d) 32 out))

-- two rows that have a set bit at the same column
pub rows-meet : (a b d : ℕ) → b < 2 ^ 32 → not (eqb (bit_and (a * 2 ^ d % 2 ^ 32) b) 0) ≡ any_below 32 (λ k. (ltb (k + d) 32 && bit (31 - (k + d)) a) && bit (31 - k) b)
rows-meet a b d small =
    let low : bit_and (a * 2 ^ d % 2 ^ 32) b < 2 ^ 32 = omega (arith, and_le_r (a * 2 ^ d % 2 ^ 32) b) in
    sym (any-bit 32 (bit_and (a * 2 ^ d % 2 ^ 32) b) low)
    ∙ any_same 32 _ _ (λ k h. bit-and (31 - k) (a * 2 ^ d % 2 ^ 32) b ∙ ap (λ t. t && bit (31 - k) b) (bit_moved a d k h))
