-- Numbers as characters (ASCII: the digit 0 is 48, the letter A is 65).
use Rattle.std.specs.Prelude.{ℕ, ◌+◌, ◌/◌, ◌%◌, cond, List, [], ◌∷◌, ◌++◌, ltb}

abbrev pub digit : ℕ → ℕ
digit d = 48 + d

-- The three digits of a number below 1,000, zeros in front among them.
abbrev pub three_digits : ℕ → List ℕ
three_digits n = digit (n / 100) ∷ digit (n / 10 % 10) ∷ digit (n % 10) ∷ []

-- The decimal digits of a number below 1,000, with no zero in front.
unfoldable pub decimal : ℕ → List ℕ
decimal n =
    cond (ltb n 10) (digit n ∷ [])
    (cond (ltb n 100) (digit (n / 10) ∷ digit (n % 10) ∷ [])
    (three_digits n))

-- The same of a number below 1,000,000.
unfoldable pub long_decimal : ℕ → List ℕ
long_decimal n = cond (ltb n 1000) (decimal n) (decimal (n / 1000) ++ three_digits (n % 1000))

-- A digit below 16, in upper case.
abbrev pub hex_digit : ℕ → ℕ
hex_digit d = cond (ltb d 10) (48 + d) (55 + d)

-- The two hex digits of a byte.
abbrev pub two_hex : ℕ → List ℕ
two_hex b = hex_digit (b / 16) ∷ hex_digit (b % 16) ∷ []
