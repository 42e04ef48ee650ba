-- The bits of a byte.
use Prim.Native.Nat.{ℕ}
use mathlib.Core.Path.{◌≡◌, refl, sym}
use mathlib.Core.Bool.{Bool, true, false, not, cond}
use Rattle.chip.specs.Bits.{bit}
use Rattle.chip.specs.Ranges.{all_below}
use Rattle.chip.proofs.Laws.Ranges.{each_holds}
use Rattle.dirty.specs.Plane.{ByteBits}

-- all eight bits, tested
abbrev same : Bool → Bool → Bool
same a b = cond a b (not b)

same-is : (a b : Bool) → same a b ≡ true → a ≡ b
same-is true true e = refl
same-is true false e = sym e
same-is false true e = e
same-is false false e = refl

pub each-bit : (byte : ℕ) (is : ℕ → Bool) → all_below 8 (λ k. same (bit k byte) (is k)) ≡ true → ByteBits byte is
each-bit byte is e k h = same-is (bit k byte) (is k) (each_holds 8 (λ j. same (bit j byte) (is j)) e k h)
