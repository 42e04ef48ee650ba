-- Single bits of a number.
use Prim.Native.Nat.{ℕ, zero, suc, ◌+◌, ◌-◌, ◌*◌, ◌/◌, ◌%◌, ◌^◌, ◌<◌, min, max}
use native.Mathlib.Nat.{one-mul, mul_assoc, pow-suc, mod-eq_of_lt, mod-lt, div-eq_of_lt, zero-lt-suc, le_step, lt-suc_self, zero-min, zero-max}
use native.Mathlib.Decide.{dec_lt}
use native.Mathlib.Omega.{arith}
use mathlib.Core.Path.{◌≡◌, refl, sym, ap, ap₂, ◌∙◌}
use mathlib.Core.Bool.{Bool, true, false, not, ◌&&◌, ◌||◌}
use borrow.Author.Tests.{eq-eqb, ne_eqb, eqb-true, eqb-false}
use lib.Arith.{le-zero, lt-one}
use lib.Bits.{bit_and, bit_or, and_step, and_shr, and_le_l, and_le_r, or_step, or_shr, or_add_and, shifted_even}
use lib.Dec.{eqb}
use lib.Pow.{pow-lt, pow-add, shl-shr, shr-shr, shr_le, high, field, mod-mod-pow}
use Rattle.chip.specs.Bits.{bit, set_bit}
use Rattle.chip.specs.Ranges.{any_below}
use Rattle.chip.proofs.Laws.Ranges.{or-false, or-true, each_holds, any-is, any-fails}

-- a bit shifted to place k of a number of w bits loses nothing
pub one_shifted : (w k : ℕ) → k < w → 1 * 2 ^ k % 2 ^ w ≡ 2 ^ k
one_shifted w k h = ap (λ (n : ℕ). n % 2 ^ w) (one-mul (2 ^ k)) ∙ mod-eq_of_lt (pow-lt h)

-- the lowest bit, once a number is shifted down to it
abbrev odd : ℕ → Bool
odd n = eqb (n % 2) 1

both-odd : (a b : ℕ) → odd (bit_and a b) ≡ (odd a && odd b)
both-odd a b =
    let low : bit_and a b % 2 ≡ min (a % 2) (b % 2) = omega (arith, and_step a b) in
    ap (λ (n : ℕ). eqb n 1) low ∙ digits (a % 2) (b % 2) (mod-lt a (zero-lt-suc 1)) (mod-lt b (zero-lt-suc 1))
  where
    digits : (x y : ℕ) → x < 2 → y < 2 → eqb (min x y) 1 ≡ (eqb x 1 && eqb y 1)
    digits zero y hx hy = ap (λ (n : ℕ). eqb n 1) (zero-min y)
    digits (suc zero) zero hx hy = refl
    digits (suc zero) (suc zero) hx hy = refl
    digits (suc zero) (suc (suc y)) hx hy = absurd (omega arith)
    digits (suc (suc x)) y hx hy = absurd (omega arith)

pub bit-and : (k a b : ℕ) → bit k (bit_and a b) ≡ (bit k a && bit k b)
bit-and k a b = ap odd (and_shr a b k) ∙ both-odd (a / 2 ^ k) (b / 2 ^ k)

either-odd : (a b : ℕ) → odd (bit_or a b) ≡ (odd a || odd b)
either-odd a b =
    let low : bit_or a b % 2 ≡ max (a % 2) (b % 2) = omega (arith, or_step a b) in
    ap (λ (n : ℕ). eqb n 1) low ∙ digits (a % 2) (b % 2) (mod-lt a (zero-lt-suc 1)) (mod-lt b (zero-lt-suc 1))
  where
    digits : (x y : ℕ) → x < 2 → y < 2 → eqb (max x y) 1 ≡ (eqb x 1 || eqb y 1)
    digits zero y hx hy = ap (λ (n : ℕ). eqb n 1) (zero-max y)
    digits (suc zero) zero hx hy = refl
    digits (suc zero) (suc zero) hx hy = refl
    digits (suc zero) (suc (suc y)) hx hy = absurd (omega arith)
    digits (suc (suc x)) y hx hy = absurd (omega arith)

pub bit-or : (k a b : ℕ) → bit k (bit_or a b) ≡ (bit k a || bit k b)
bit-or k a b = ap odd (or_shr a b k) ∙ either-odd (a / 2 ^ k) (b / 2 ^ k)

-- two numbers join to 0 where both are 0, and nowhere else
pub both_zero : (a b : ℕ) → bit_or a b ≡ 0 → (a ≡ 0) × (b ≡ 0)
both_zero a b e = (omega (arith, or_add_and a b, and_le_r a b), omega (arith, or_add_and a b, and_le_l a b))

pub joined-zero : (a b : ℕ) → eqb (bit_or a b) 0 ≡ (eqb a 0 && eqb b 0)
joined-zero a b = by (eqb a 0) (eqb b 0) refl refl
  where
    by : (p q : Bool) → eqb a 0 ≡ p → eqb b 0 ≡ q → eqb (bit_or a b) 0 ≡ (p && q)
    by true true ea eb = eq-eqb (bit_or a b) 0 (omega (arith, or_add_and a b, eqb-true a 0 ea, eqb-true b 0 eb))
    by true false ea eb = ne_eqb (bit_or a b) 0 (λ e. eqb-false b 0 eb (both_zero a b e).1)
    by false q ea eb = ne_eqb (bit_or a b) 0 (λ e. eqb-false a 0 ea (both_zero a b e).0)

-- a number cut off above bit k has it still
pub bit_kept : (i k n : ℕ) → bit k (n % 2 ^ (i + 1 + k)) ≡ bit k n
bit_kept i k n = ap odd (field n (i + 1) k) ∙ ap (λ (m : ℕ). eqb m 1) (mod-mod-pow (n / 2 ^ k) i 1)

-- a number shifted up: its bits stand higher, and below them there are none
pub bit_shifted : (by k n : ℕ) → bit (by + k) (n * 2 ^ by) ≡ bit k n
bit_shifted by k n = ap odd (sym (shr-shr (n * 2 ^ by) by k) ∙ ap (λ (m : ℕ). m / 2 ^ k) (shl-shr n by))

pub bit_below : (i k n : ℕ) → bit k (n * 2 ^ (suc i + k)) ≡ false
bit_below i k n =
    ap odd (ap (λ (m : ℕ). m / 2 ^ k) (ap (λ (m : ℕ). n * m) (pow-add 2 (suc i) k) ∙ sym (mul_assoc n (2 ^ suc i) (2 ^ k))) ∙ shl-shr (n * 2 ^ suc i) k)
    ∙ ap (λ (m : ℕ). eqb m 1) (shifted_even n i)

pub bit-zero : (k : ℕ) → bit k 0 ≡ false
bit-zero k = ap odd (le-zero (shr_le 0 k))

-- all bits of 255 are set
pub full-bit : (k : ℕ) → k < 8 → bit k 255 ≡ true
full-bit k h = each_holds 8 (λ j. bit j 255) refl k h

-- a power of two has one bit
bit-power : (j k : ℕ) → bit k (2 ^ j) ≡ eqb k j
bit-power j k = by (dec_lt k j) (dec_lt j k)
  where
    one : (n : ℕ) → 2 ^ n ≡ 1 * 2 ^ n
    one n = sym (one-mul (2 ^ n))

    by : Dec (k < j) → Dec (j < k) → bit k (2 ^ j) ≡ eqb k j
    by (yes below) _ =
        let i : j ≡ suc (j - suc k) + k = omega arith in
        ap (bit k) (one j ∙ ap (λ (n : ℕ). 1 * 2 ^ n) i) ∙ bit_below (j - suc k) k 1 ∙ sym (ne_eqb k j (λ e. omega arith))
    by (no _) (yes above) = ap odd (div-eq_of_lt (pow-lt above)) ∙ sym (ne_eqb k j (λ e. omega arith))
    by (no a) (no b) =
        let same : k ≡ j + 0 = omega arith in
        ap₂ bit same (one j) ∙ bit_shifted j 0 1 ∙ sym (eq-eqb k j (omega arith))

-- a bit that is set, and the others
bit-set : (j k x : ℕ) → bit k (set_bit j x) ≡ (bit k x || eqb k j)
bit-set j k x = bit-or k x (2 ^ j) ∙ ap (λ (b : Bool). bit k x || b) (bit-power j k)

pub set_same : (k x : ℕ) → bit k (set_bit k x) ≡ true
set_same k x = bit-set k k x ∙ ap (λ (b : Bool). bit k x || b) (eq-eqb k k refl) ∙ or-true (bit k x)

pub set_other : (k j x : ℕ) → (k ≡ j → ⊥) → bit k (set_bit j x) ≡ bit k x
set_other k j x other = bit-set j k x ∙ ap (λ (b : Bool). bit k x || b) (ne_eqb k j other) ∙ or-false (bit k x)

-- a number below the double of 2 ^ k whose bit k is clear is below 2 ^ k
top-clear : (k n : ℕ) → n < 2 ^ suc k → bit k n ≡ false → n < 2 ^ k
top-clear k n h e = by (dec_lt n (2 ^ k))
  where
    by : Dec (n < 2 ^ k) → n < 2 ^ k
    by (yes below) = below
    by (no above) =
        let parts : n ≡ 1 * 2 ^ k + (n - 2 ^ k) = omega arith in
        let rest : n - 2 ^ k < 2 ^ k = omega (arith, pow-suc 2 k) in
        let one : n / 2 ^ k ≡ 1 = ap (λ (m : ℕ). m / 2 ^ k) parts ∙ high 1 k rest in
        absurd (eqb-false 0 0 (sym (ap odd one) ∙ e) refl)

-- a number with no set bit is 0
none-set : (n x : ℕ) → x < 2 ^ n → ((k : ℕ) → k < n → bit k x ≡ false) → x ≡ 0
none-set zero x h e = lt-one h
none-set (suc n) x h e = none-set n x (top-clear n x h (e n (lt-suc_self n))) (λ k below. e k (le_step below))

-- and one with a set bit is not; bits counted from the top
pub any-bit : (n x : ℕ) → x < 2 ^ n → any_below n (λ k. bit (n - 1 - k) x) ≡ not (eqb x 0)
any-bit n x h = any-is n (λ k. bit (n - 1 - k) x) (not (eqb x 0)) (λ k below e. some (eqb x 0) refl k e) (λ e. all (any_below n (λ k. bit (n - 1 - k) x)) refl e)
  where
    some : (t : Bool) → eqb x 0 ≡ t → (k : ℕ) → bit (n - 1 - k) x ≡ true → not t ≡ true
    some true none k e = sym (ap (bit (n - 1 - k)) (eqb-true x 0 none) ∙ bit-zero (n - 1 - k)) ∙ e
    some false none k e = refl

    from-top : (k : ℕ) → k < n → n - 1 - (n - 1 - k) ≡ k
    from-top k below = omega arith

    all : (t : Bool) → any_below n (λ k. bit (n - 1 - k) x) ≡ t → not (eqb x 0) ≡ true → t ≡ true
    all true one e = refl
    all false one e =
        let clear : (k : ℕ) → k < n → bit k x ≡ false = λ k below. sym (ap (λ (j : ℕ). bit j x) (from-top k below)) ∙ any-fails n (λ k. bit (n - 1 - k) x) one (n - 1 - k) (omega arith) in
        sym (ap (λ (m : ℕ). not (eqb m 0)) (none-set n x h clear)) ∙ e
