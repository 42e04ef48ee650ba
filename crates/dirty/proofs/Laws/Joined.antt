-- Single bits of two numbers joined, and of two that have no bit in common.
use Prim.Native.Nat.{ℕ}
use mathlib.Core.Path.{◌≡◌, sym, ap, ◌∙◌}
use mathlib.Core.Bool.{Bool, true, false, ◌&&◌}
use lib.Bits.{bit_and, bit_or, and_comm}
use Rattle.chip.specs.Bits.{bit}
use Rattle.chip.proofs.Laws.Bits.{bit-and, bit-or, bit-zero}
use Rattle.chip.proofs.Laws.Refusals.{neither}

-- neither has a bit that the joined number lacks
pub first-lacks : (k a b : ℕ) → bit k (bit_or a b) ≡ false → bit k a ≡ false
first-lacks k a b e = (neither (bit k a) (bit k b) (sym (bit-or k a b) ∙ e)).0

pub second-lacks : (k a b : ℕ) → bit k (bit_or a b) ≡ false → bit k b ≡ false
second-lacks k a b e = (neither (bit k a) (bit k b) (sym (bit-or k a b) ∙ e)).1

-- of two numbers with no bit in common, one lacks what the other has
pub apart : (k a b : ℕ) → bit_and a b ≡ 0 → bit k a ≡ true → bit k b ≡ false
apart k a b none has = sym (ap (λ (p : Bool). p && bit k b) has) ∙ sym (bit-and k a b) ∙ ap (bit k) none ∙ bit-zero k

pub apart_from : (k a b : ℕ) → bit_and a b ≡ 0 → bit k b ≡ true → bit k a ≡ false
apart_from k a b none has = apart k b a (and_comm b a ∙ none) has
