-- The words that the program is called with. A number is decimal digits as characters (ASCII: 0 is 48, and 9 is 57).
use Rattle.std.specs.Prelude.{ℕ, ◌+◌, ◌-◌, ◌*◌, Bool, true, not, ◌&&◌, List, [], ◌∷◌, eqb, leb, length}

abbrev pub is_digit : ℕ → Bool
is_digit c = leb 48 c && leb c 57

unfoldable pub all_digits : List ℕ → Bool
all_digits [] = true
all_digits (c ∷ l) = is_digit c && all_digits l

-- One digit or more, and nothing else: no sign and no blank.
abbrev pub is_number : List ℕ → Bool
is_number word = not (eqb (length word) 0) && all_digits word

-- The number that n becomes with further digits behind it.
unfoldable pub with_digits : ℕ → List ℕ → ℕ
with_digits n [] = n
with_digits n (c ∷ l) = with_digits (n * 10 + (c - 48)) l

-- The number that a word's digits stand for, however many they are.
abbrev pub number_in : List ℕ → ℕ
number_in word = with_digits 0 word

-- Whether there are three words (`argc`), the program's own name, a line and a column, and the last two are numbers.
abbrev pub rightly_called : ℕ → List ℕ → List ℕ → Bool
rightly_called argc first second = eqb argc 3 && (is_number first && is_number second)
