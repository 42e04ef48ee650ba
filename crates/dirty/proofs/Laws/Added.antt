-- Answers that a loop adds one by one.
use Prim.Native.Nat.{ℕ, ◌+◌, ◌≤◌, ◌<◌}
use native.Mathlib.Nat.{ne_of_lt}
use native.Mathlib.Omega.{arith}
use mathlib.Core.Path.{◌≡◌, sym, ap, ◌∙◌}
use mathlib.Core.Bool.{Bool, true, false, ◌||◌}
use mathlib.Core.List.{List}
use borrow.Author.Count.{below_more}
use lib.ListN.{length, get_or}
use Rattle.chip.specs.Bits.{bit, set_bit}
use Rattle.chip.proofs.Laws.Bits.{set_same, set_other}
use Rattle.chip.proofs.Laws.Ranges.{or-false, or-true}

-- A byte to which the answers below k are added.
pub record Bits (is : ℕ → Bool) (before k byte : ℕ) : Type 0 where
  pub up : k ≤ 8
  pub done : (j : ℕ) → j < k → bit j byte ≡ (bit j before || is j)
  pub left : (j : ℕ) → k ≤ j → bit j byte ≡ bit j before

module _ {is : ℕ → Bool} {before k byte : ℕ} (b : Bits is before k byte) (h : k < 8) (t : Bool) (test : t ≡ is k) where
  pub bits-set : t ≡ true → Bits is before (k + 1) (set_bit k byte)
  bits-set e =
      record {
        up = omega arith;
        done =
            below_more (λ j. bit j (set_bit k byte) ≡ (bit j before || is j)) k
            (λ j low. set_other j k byte (ne_of_lt low) ∙ b.done j low)
            (set_same k byte ∙ sym (ap (λ (p : Bool). bit k before || p) (sym test ∙ e) ∙ or-true (bit k before)));
        left = λ j high. set_other j k byte (λ same. omega arith) ∙ b.left j (omega arith);
      }

  pub bits-same : t ≡ false → Bits is before (k + 1) byte
  bits-same e =
      record {
        up = omega arith;
        done =
            below_more (λ j. bit j byte ≡ (bit j before || is j)) k b.done
            (b.left k (omega arith) ∙ sym (ap (λ (p : Bool). bit k before || p) (sym test ∙ e) ∙ or-false (bit k before)));
        left = λ j high. b.left j (omega arith);
      }

-- Bytes of which those below m are done.
pub record Rows (is : ℕ → ℕ → Bool) (before : List ℕ) (m : ℕ) (rows : List ℕ) : Type 0 where
  pub up : m ≤ 24
  pub long : length rows ≡ 24
  pub done : (row : ℕ) → row < m → (k : ℕ) → k < 8 → bit k (get_or rows row 0) ≡ (bit k (get_or before row 0) || is row k)
  pub left : (row : ℕ) → m ≤ row → get_or rows row 0 ≡ get_or before row 0
