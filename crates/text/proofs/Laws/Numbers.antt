-- How long numbers and runs are.
use Prim.Native.Nat.{ℕ, suc, ◌*◌, ◌+◌, ◌≤◌, ◌<◌, ◌/◌, ◌%◌}
use native.Mathlib.Omega.{arith}
use mathlib.Core.Path.{◌≡◌, refl, ap, ◌∙◌}
use mathlib.Core.Bool.{Bool, true, false}
use mathlib.Core.List.{[], ◌∷◌, ◌++◌}
use lib.Dec.{ltb}
use lib.ListN.{length, length-append}
use borrow.Author.Tests.{lt-ltb, le-ltb, ltb-true, ltb-false}
use Rattle.text.specs.Numbers.{digit, three_digits, decimal, long_decimal}
use Rattle.text.specs.Lines.{run_text, bounds_text}

module _ (n : ℕ) where
  pub one-digit : n < 10 → decimal n ≡ digit n ∷ []
  unfolding decimal
  one-digit h = rw (lt-ltb n 10 h)

  pub two_digits : 10 ≤ n → n < 100 → decimal n ≡ digit (n / 10) ∷ digit (n % 10) ∷ []
  unfolding decimal
  two_digits h k = rw (le-ltb n 10 h, lt-ltb n 100 k)

  pub three-digits : 100 ≤ n → decimal n ≡ three_digits n
  unfolding decimal
  three-digits h = rw (le-ltb n 10 (omega arith), le-ltb n 100 h)

  pub length-decimal : (length (decimal n) ≤ 3) × (n < 10 → length (decimal n) ≤ 1)
  length-decimal = by (ltb n 10) (ltb n 100) refl refl
    where
      by : (x y : Bool) → ltb n 10 ≡ x → ltb n 100 ≡ y → (length (decimal n) ≤ 3) × (n < 10 → length (decimal n) ≤ 1)
      by true y e f = let s = ap length (one-digit (ltb-true n 10 e)) in (omega arith, λ _. omega arith)
      by false true e f = let s = ap length (two_digits (ltb-false n 10 e) (ltb-true n 100 f)) in (omega arith, λ small. absurd (omega (arith, ltb-false n 10 e)))
      by false false e f = let s = ap length (three-digits (ltb-false n 100 f)) in (omega arith, λ small. absurd (omega (arith, ltb-false n 10 e)))

  -- a number from 1,000 on has its thousands before its last three digits
  pub no-thousands : n < 1000 → long_decimal n ≡ decimal n
  unfolding long_decimal
  no-thousands h = rw (lt-ltb n 1000 h)

  pub thousands-first : 1000 ≤ n → long_decimal n ≡ decimal (n / 1000) ++ three_digits (n % 1000)
  unfolding long_decimal
  thousands-first h = rw (le-ltb n 1000 h)

pub length-long : (n : ℕ) → length (long_decimal n) ≤ 6
length-long n = by (ltb n 1000) refl
  where
    by : (x : Bool) → ltb n 1000 ≡ x → length (long_decimal n) ≤ 6
    by true e = omega (arith, ap length (no-thousands n (ltb-true n 1000 e)), (length-decimal n).0)
    by false e =
        omega (arith, ap length (thousands-first n (ltb-false n 1000 e)) ∙ length-append (decimal (n / 1000)) (three_digits (n % 1000)), (length-decimal (n / 1000)).0)

-- a run takes at most six characters for each of its columns
pub length_run : (n colour : ℕ) → 1 ≤ n → length (run_text n colour) ≤ 6 * n
unfolding run_text
length_run n colour some = by (ltb n 10) refl
  where
    all : length (run_text n colour) ≡ 1 + (length (decimal n) + (1 + length (decimal colour)))
    all = ap suc (length-append (decimal n) (42 ∷ decimal colour)) ∙ omega arith

    by : (x : Bool) → ltb n 10 ≡ x → length (run_text n colour) ≤ 6 * n
    by true e = omega (arith, all, (length-decimal colour).0, (length-decimal n).1 (ltb-true n 10 e))
    by false e = omega (arith, all, (length-decimal colour).0, (length-decimal n).0, ltb-false n 10 e)

-- `lines 191-191`
pub length-bounds : (a b : ℕ) → length (bounds_text a b) ≤ 13
unfolding bounds_text
length-bounds a b = omega (arith, length-append (decimal a) (45 ∷ decimal b), (length-decimal a).0, (length-decimal b).0)

-- how far a number, or the bounds of a range, can put an end
pub decimal-short : (n : ℕ) → length (decimal n) ≤ 3
decimal-short n = (length-decimal n).0

pub ruleset lengths = (decimal-short, length-long, length-bounds)
