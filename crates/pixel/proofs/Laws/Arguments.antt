-- The digits of a word, each and one after another.
use Prim.Native.Nat.{ℕ, zero, suc, ◌^◌, ◌<◌, min}
use native.Mathlib.Nat.{lt_of_not-le}
use native.Mathlib.Omega.{arith}
use mathlib.Core.Path.{◌≡◌, refl, sym, ap, ◌∙◌}
use mathlib.Core.Bool.{Bool, true, false, not, ◌&&◌, true≢false}
use mathlib.Core.List.{List, [], ◌∷◌}
use mathlib.Core.Logic.{◌↔◌}
use lib.Dec.{eqb}
use lib.ListN.{length, get_or}
use Rattle.std.specs.Prelude.{Result, Ok, Err, OkIff}
use Rattle.std.specs.Result.{result_unwrap_or}
use Rattle.std.specs.Str.{IsUtf8, all_ascii_digits}
use Rattle.std.specs.Str.Parse.{ParsesUnsigned}
use Rattle.std.proofs.lemmas.Fmt.{IsAscii-from_digits}
use Rattle.std.proofs.lemmas.Str.{IsUtf8-from_ascii}
use Rattle.std.proofs.lemmas.Str.Parse.{FoldsDigits, IsNumeralModel, numerals_by_fold, tells_all_ascii_digits, parse_digits}
use Rattle.chip.proofs.Laws.Ranges.{and_left, and_right}
use Rattle.pixel.specs.Arguments.{is_digit, all_digits, is_number, with_digits, number_in}

-- a word is all digits where it has one at each place
digit-at : (word : List ℕ) → all_digits word ≡ true → (k : ℕ) → k < length word → is_digit (get_or word k 0) ≡ true
unfolding all_digits
digit-at [] e k h = absurd (omega arith)
digit-at (c ∷ l) e zero h = and_left (is_digit c) (all_digits l) e
digit-at (c ∷ l) e (suc k) h = digit-at l (and_right (is_digit c) (all_digits l) e) k (omega arith)

digits-all : (word : List ℕ) → ((k : ℕ) → k < length word → is_digit (get_or word k 0) ≡ true) → all_digits word ≡ true
unfolding all_digits
digits-all [] each = refl
digits-all (c ∷ l) each = rw (each 0 (omega arith)) (digits-all l (λ k h. each (suc k) (omega arith)))

both-ways : (a b : Bool) → (a ≡ true → b ≡ true) → (b ≡ true → a ≡ true) → a ≡ b
both-ways true b f g = sym (f refl)
both-ways false true f g = g refl
both-ways false false f g = refl

pub digits-each : {b : Bool} (word : List ℕ) → ((b ≡ true) ↔ ((k : ℕ) → k < length word → is_digit (get_or word k 0) ≡ true)) → b ≡ all_digits word
digits-each {b} word each = both-ways b (all_digits word) (λ e. digits-all word (each.0 e)) (λ e. each.1 (digit-at word e))

-- all digits, in the words of std
same : (word : List ℕ) → all_digits word ≡ all_ascii_digits word
unfolding all_digits
same [] = refl
same (c ∷ l) = ap (λ (b : Bool). is_digit c && b) (same l)

folds : FoldsDigits with_digits
unfolding with_digits
folds = record { empty = λ n. refl; more = λ n c cs k. refl }

numerals : IsNumeralModel (λ ds. all_ascii_digits ds ≡ true) (with_digits 0)
numerals = numerals_by_fold _ tells_all_ascii_digits with_digits folds

module _ (word : List ℕ) (h : is_number word ≡ true) where
  all : all_ascii_digits word ≡ true
  all = sym (same word) ∙ and_right (not (eqb (length word) 0)) (all_digits word) h

  some : 0 < length word
  some = by (length word) (and_left (not (eqb (length word) 0)) (all_digits word) h)
    where
      by : (n : ℕ) → not (eqb n 0) ≡ true → 0 < n
      by zero e = absurd (true≢false (sym e))
      by (suc n) e = omega arith

  -- its characters are text
  pub digits-utf8 : IsUtf8 word
  digits-utf8 = IsUtf8-from_ascii word (IsAscii-from_digits word (numerals.to word all))

  -- and `parse` refuses it only where its number is too large
  pub parsed-or-largest : {E : Type 0} (r : Result ℕ E) → ParsesUnsigned 32 10 word r → result_unwrap_or r 4294967295 ≡ min (number_in word) 4294967295
  parsed-or-largest r p = by r (parse_digits numerals 32 word r p all)
    where
      by : {E : Type 0} (r : Result ℕ E) → OkIff r ((0 < length word) × (number_in word < 2 ^ 32)) (number_in word) → result_unwrap_or r 4294967295 ≡ min (number_in word) 4294967295
      by (Ok x) q = omega (arith, q.0.1, q.1)
      by (Err e) q = let large : 4294967295 < number_in word = lt_of_not-le (λ l. q (some, omega arith)) in omega arith

-- a word of digits, parsed
pub ruleset parsing = (digits-utf8, parsed-or-largest)
