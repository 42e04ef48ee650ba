-- Refusal numbers, the order of tests, and what a refused call leaves.
use Rattle.std.specs.Prelude.{ℕ, ◌+◌, ◌*◌, Bool, true, false, cond, not, ◌&&◌, ◌||◌, List, [], ◌∷◌, eqb, leb, length, Result, Ok, Err}
use Rattle.std.specs.Result.{result_unwrap_or}
use Rattle.chip.specs.State.{vram_size, well_formed}
use Rattle.chip.specs.declared.state.Chip.{Chip}
use Rattle.chip.specs.declared.refusal.Answer.{Answer}
use Rattle.chip.specs.declared.refusal.Refusal.{Refusal}
use Rattle.chip.specs.declared.refusal.Refusal.TheVariants.{VramLength, SliceLength, IllFormed, LineNumber, SnapshotLength, Trailer, Checksum, LogForm, LogRecord, ColumnNumber}

-- The number of each refusal.
abbrev pub refusal_number : Refusal → ℕ
refusal_number VramLength = 1
refusal_number SliceLength = 2
refusal_number IllFormed = 3
refusal_number LineNumber = 4
refusal_number SnapshotLength = 5
refusal_number Trailer = 6
refusal_number Checksum = 7
refusal_number LogForm = 8
refusal_number LogRecord = 9
refusal_number ColumnNumber = 13

-- How the tests of a call end: all passed, or a refusal.
abbrev pub Outcome : Type 0
Outcome = Result (Unit {0}) Refusal

-- Whether a call is accepted, and its refusal's number, or 0.
module _ {A : Type 0} where
  abbrev pub is_accepted : Result A Refusal → Bool
  is_accepted (Ok x) = true
  is_accepted (Err r) = false

  abbrev pub number_of : Result A Refusal → ℕ
  number_of (Ok x) = 0
  number_of (Err r) = refusal_number r

-- Which refusal a call gives if several tests fail: the earliest in this list.
abbrev pub order : List Refusal
order = VramLength ∷ SliceLength ∷ SnapshotLength ∷ Trailer ∷ Checksum ∷ IllFormed ∷ LineNumber ∷ ColumnNumber ∷ LogForm ∷ LogRecord ∷ []

-- A test that a call makes: the refusal that it gives where it does not pass.
pub record Test : Type 0 where
  pub refusal : Refusal
  pub passes : Bool

-- VRAM has 16,384 bytes.
abbrev pub vram_test : List ℕ → Test
vram_test vram = record { refusal = VramLength; passes = eqb (length vram) vram_size }

-- Another slice has its length.
abbrev pub slice_test : ℕ → List ℕ → Test
slice_test n slice = record { refusal = SliceLength; passes = eqb (length slice) n }

-- The state is well-formed.
abbrev pub state_test : Chip → Test
state_test c = record { refusal = IllFormed; passes = well_formed c }

-- The line number is at most 191.
abbrev pub line_test : ℕ → Test
line_test l = record { refusal = LineNumber; passes = leb l 191 }

-- The column number is at most 255.
abbrev pub column_test : ℕ → Test
column_test x = record { refusal = ColumnNumber; passes = leb x 255 }

-- Whether one of the tests gives the refusal r.
abbrev pub gives : List Test → Refusal → Bool
gives [] r = false
gives (t ∷ ts) r = eqb (refusal_number t.refusal) (refusal_number r) && not t.passes || gives ts r

-- The first refusal of a list that one of the tests gives.
abbrev pub first_given : List Refusal → List Test → Outcome
first_given [] ts = Ok tt
first_given (r ∷ rs) ts = cond (gives ts r) (Err r) (first_given rs ts)

-- A call that makes these tests ends them so.
abbrev pub refusal_of : List Test → Outcome
refusal_of ts = first_given order ts

-- What a call leaves: the new where it is accepted, the old where it is refused.
module _ {A B : Type 0} where
  abbrev pub if_accepted : Result A Refusal → B → B → B
  if_accepted r new old = cond (is_accepted r) new old

-- What a call gives: a value where it is accepted, or the refusal.
module _ {A : Type 0} where
  abbrev pub giving : Outcome → A → Result A Refusal
  giving (Ok x) value = Ok value
  giving (Err r) value = Err r

-- The number read, or 0.
abbrev pub value_of : Result ℕ Refusal → ℕ
value_of r = result_unwrap_or r 0

-- An answer as one number, for a caller in C: the refusal's stands above the low byte, which is the number read.
abbrev pub result_of : Answer → ℕ
result_of a = number_of a.result * 256 + value_of a.result

-- A call's answer: the next state and the number read, or the state given and the refusal.
abbrev pub answered : Outcome → Chip → Chip → ℕ → Answer
answered r given next value = record { chip = if_accepted r next given; result = giving r value }
