-- Registers that obey the masks, and one of them written.
use Prim.Native.Nat.{ℕ, zero, suc, ◌*◌, ◌+◌, ◌/◌, ◌%◌, ◌≤◌, ◌<◌, min}
use native.Mathlib.Omega.{arith}
use native.Mathlib.Nat.{min-le_right, min-eq_left}
use mathlib.Core.Path.{◌≡◌, refl, sym, ap, ap₂, ◌∙◌}
use mathlib.Core.Bool.{Bool, true, false}
use mathlib.Core.List.{List, [], ◌∷◌}
use lib.Arith.{bin_ind}
use lib.Bits.{bit_and, and_step, and_le_r}
use lib.Dec.{eqb, ltb}
use lib.ListN.{length, get_or, set}
use lib.Seq.{get_or-set_same, get_or-set_other}
use borrow.Author.Tests.{eqb-true, eqb-false, eq-eqb, ltb-true}
use Rattle.chip.specs.State.{Bytes, masks, kept, register, obeys, masked}
use Rattle.chip.proofs.Laws.Ranges.{all_hold, each_holds}

-- what is masked twice is masked once
pub and-twice : (a m : ℕ) → bit_and (bit_and a m) m ≡ bit_and a m
and-twice = bin_ind (λ (a : ℕ). (m : ℕ) → bit_and (bit_and a m) m ≡ bit_and a m) (λ m. refl) next
  where
    next : (n : ℕ) → ((m : ℕ) → bit_and (bit_and (n / 2) m) m ≡ bit_and (n / 2) m) → (m : ℕ) → bit_and (bit_and n m) m ≡ bit_and n m
    next n again m =
        let small : min (n % 2) (m % 2) ≤ m % 2 = min-le_right (n % 2) (m % 2) in
        let e = and_step n m in
        let half : bit_and n m / 2 ≡ bit_and (n / 2) (m / 2) = omega arith in
        let low : bit_and n m % 2 ≡ min (n % 2) (m % 2) = omega arith in
        and_step (bit_and n m) m
        ∙ ap₂ (λ (x y : ℕ). bit_and x (m / 2) * 2 + min y (m % 2)) half low
        ∙ ap₂ (λ (x y : ℕ). x * 2 + y) (again (m / 2)) (min-eq_left small)
        ∙ sym e

mask-byte : (n : ℕ) → n < 8 → get_or masks n 0 < 256
mask-byte n h = ltb-true (get_or masks n 0) 256 (each_holds 8 (λ k. ltb (get_or masks k 0) 256) refl n h)

pub kept_byte : (n a : ℕ) → n < 8 → kept n a < 256
kept_byte n a h = let small = and_le_r a (get_or masks n 0) in let mask = mask-byte n h in omega arith

-- bytes with one replaced by a byte
pub bytes-set : (l : List ℕ) (n x : ℕ) → Bytes l → x < 256 → Bytes (set l n x)
bytes-set [] n x bytes small i = bytes i
bytes-set (y ∷ l) zero x bytes small zero = small
bytes-set (y ∷ l) zero x bytes small (suc i) = bytes (suc i)
bytes-set (y ∷ l) (suc n) x bytes small zero = bytes 0
bytes-set (y ∷ l) (suc n) x bytes small (suc i) = bytes-set l n x (λ j. bytes (suc j)) small i

-- A register written with what it keeps obeys its mask, and the others as before.
pub masked-set : (r : List ℕ) (n a : ℕ) → length r ≡ 8 → n < 8 → masked r ≡ true → masked (set r n (kept n a)) ≡ true
unfolding masked
masked-set r n a eight h ok = all_hold 8 (obeys (set r n (kept n a))) (λ k below. by k below (eqb k n) refl)
  where
    by : (k : ℕ) → k < 8 → (b : Bool) → eqb k n ≡ b → obeys (set r n (kept n a)) k ≡ true
    by k below true e =
        let same = eqb-true k n e in
        let here : register k (set r n (kept n a)) ≡ kept k a = ap (λ (j : ℕ). get_or (set r n (kept n a)) j 0) same ∙ get_or-set_same r n (kept n a) 0 (omega arith) ∙ ap (λ (j : ℕ). kept j a) (sym same) in
        eq-eqb _ _ (ap (kept k) here ∙ and-twice a (get_or masks k 0) ∙ sym here)
    by k below false e =
        let there : register k (set r n (kept n a)) ≡ register k r = get_or-set_other r n k (kept n a) 0 (eqb-false k n e) in
        eq-eqb _ _ (ap (kept k) there ∙ eqb-true _ _ (each_holds 8 (obeys r) ok k below) ∙ sym there)
