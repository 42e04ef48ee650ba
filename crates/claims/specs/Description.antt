-- What is said of a call, once for each call: what it is lent, what it tests, what it answers, and the call itself.
use Rattle.std.specs.Prelude.{ℕ, ◌/◌, ◌%◌, ◌<◌, Bool, true, false, cond, List, [], ◌∷◌, eqb, Result, Ok, Err}
use Rattle.chip.specs.Map.{map_size}
use Rattle.chip.specs.Refusals.{Test, number_of, value_of, vram_test, slice_test, state_test}
use Rattle.chip.specs.declared.state.Chip.{Chip}
use Rattle.chip.specs.declared.refusal.Answer.{Answer}
use Rattle.chip.specs.declared.refusal.Refusal.{Refusal}
use Rattle.frame.specs.Lines.{frame_size, notes_size}
use Rattle.chip.specs.TwoBytes.{low_first_at}
use Rattle.port_log.specs.declared.running.Reached.{Reached}
use Rattle.port_log.specs.declared.running.Ran.{Ran}
use Rattle.birdcleft.specs.Calls.{FromC}
use Rattle.claims.specs.Bench.{Bench}

-- What a call answers: the refusal number, the numbers read, and the slices that are its own, as it left them.
pub record Reply : Type 0 where
  pub refusal : ℕ
  pub values : List ℕ
  pub slices : List (List ℕ)

-- What a call leaves of what it was lent, and what it answers. S is the state's type: a state, or from C its block.
pub record Left (S : Type 0) : Type 0 where
  pub state : S
  pub vram : List ℕ
  pub map : List ℕ
  pub frame : List ℕ
  pub notes : List ℕ
  pub reply : Reply

-- Which of the bench's lists a call takes.
pub record Takes : Type 0 where
  pub vram : Bool
  pub map : Bool
  pub frame : Bool
  pub notes : Bool

-- What a call brings that is its own: bytes to write, slices to fill, numbers of a line and a column, a snapshot, a log.
pub record Brings : Type 1 where
  -- The tests of it, which may look at the state too.
  pub tests : Chip → List Test
  -- The slices that the call is to fill. They may hold anything.
  pub slices : List (List ℕ)
  -- That the bytes which the call is to read are bytes.
  pub AreBytes : Type 0

-- What there is to a call from C alone.
pub record OnlyFromC : Type 1 where
  -- The tests of a slice for numbers that the direct call hands back.
  pub tests : List Test
  -- What VRAM has to hold, and what the call has to bring, for its numbers to fit into the bytes that they are answered in.
  pub NumbersFit : List ℕ → Type 0

-- A law of each call (`Lawful`, in proofs/) is that the tests which `takes`, `tests_state` and `brings` give are those of its
-- definition.
pub record Description : Type 1 where
  pub takes : Takes
  -- Whether it tests that the state is well-formed.
  pub tests_state : Bool
  pub brings : Brings
  pub from_c : OnlyFromC
  -- How many numbers it answers.
  pub numbers : ℕ
  -- Whether it establishes the invariant of demand 3: accepted on a bench of which nothing is known but lengths and types, it
  -- leaves a well-formed state, and has drawn every line or set the redraw mark.
  pub establishes : Bool
  -- The call itself, by the definitions that its contract cites: a function of the bench as lent; from C of the block, too.
  pub directly : Bench → Left Chip
  pub through_c : List ℕ → Bench → Left (List ℕ)

-- A test that is made or not, then others.
abbrev pub test_if : Bool → Test → List Test → List Test
test_if true t ts = t ∷ ts
test_if false t ts = ts

-- All tests of a call: of the lengths of the lists that it takes, of the state, and of what it brings.
abbrev pub tests : Description → Bench → List Test
tests d b =
    test_if d.takes.vram (vram_test b.vram)
    (test_if d.takes.map (slice_test map_size b.map)
    (test_if d.takes.frame (slice_test frame_size b.frame)
    (test_if d.takes.notes (slice_test notes_size b.notes)
    (test_if d.tests_state (state_test b.chip) (d.brings.tests b.chip)))))

-- The lists that the calls so far take.
abbrev pub no_list : Takes
no_list = record { vram = false; map = false; frame = false; notes = false }

abbrev pub vram_alone : Takes
vram_alone = record { vram = true; map = false; frame = false; notes = false }

abbrev pub vram_and_map : Takes
vram_and_map = record { vram = true; map = true; frame = false; notes = false }

abbrev pub all_lists : Takes
all_lists = record { vram = true; map = true; frame = true; notes = true }

-- Nothing, and a byte to write.
abbrev pub nothing : Brings
nothing = record { tests = λ c. []; slices = []; AreBytes = Unit {0} }

abbrev pub a_byte : ℕ → Brings
a_byte x = record { tests = λ c. []; slices = []; AreBytes = x < 256 }

-- One result for all numbers, and they fit by the state's types.
abbrev pub nothing_more : OnlyFromC
nothing_more = record { tests = []; NumbersFit = λ vram. Unit {0} }

-- State and numbers that a call hands back.
pub record Returned (S : Type 0) : Type 0 where
  pub state : S
  pub refusal : ℕ
  pub values : List ℕ

abbrev pub of_answer : Answer → Returned Chip
of_answer a = record { state = a.chip; refusal = number_of a.result; values = value_of a.result ∷ [] }

-- From C one result holds both numbers: divided by 256 it gives the refusal's, and the remainder is the other.
abbrev pub of_result : List ℕ → ℕ → Returned (List ℕ)
of_result block n = record { state = block; refusal = n / 256; values = n % 256 ∷ [] }

abbrev pub of_from_c : FromC → Returned (List ℕ)
of_from_c r = of_result r.block r.result

-- A run answers three numbers: the byte found, the records done, and the place; or 0 for each.
abbrev pub reached_values : Result Reached Refusal → List ℕ
reached_values (Ok reached) = reached.found ∷ reached.done ∷ reached.place ∷ []
reached_values (Err r) = 0 ∷ 0 ∷ 0 ∷ []

abbrev pub of_ran : Ran → Returned Chip
of_ran r = record { state = r.chip; refusal = number_of r.result; values = reached_values r.result }

-- From C the last two stand in the outcome, where it is accepted. (What the outcome holds after a refused run, the contract of the
-- call says: it is as lent.)
abbrev pub of_outcome : FromC → List ℕ → Returned (List ℕ)
of_outcome r outcome =
    record {
      state = r.block;
      refusal = r.result / 256;
      values = r.result % 256 ∷ cond (eqb (r.result / 256) 0) (low_first_at outcome 0 ∷ low_first_at outcome 2 ∷ []) (0 ∷ 0 ∷ []);
    }

module _ {S : Type 0} where
  -- What is left, list by list.
  abbrev pub leaves : Returned S → List ℕ → List ℕ → List ℕ → List ℕ → List (List ℕ) → Left S
  leaves a vram map frame notes slices =
      record {
        state = a.state;
        vram = vram;
        map = map;
        frame = frame;
        notes = notes;
        reply = record { refusal = a.refusal; values = a.values; slices = slices };
      }

  -- A call that changes none of the lists.
  abbrev pub answers : Bench → Returned S → Left S
  answers b a = leaves a b.vram b.map b.frame b.notes []

  -- One that fills slices of its own.
  abbrev pub fills : Bench → Returned S → List (List ℕ) → Left S
  fills b a slices = leaves a b.vram b.map b.frame b.notes slices

  -- One that changes VRAM alone.
  abbrev pub replaces : Bench → Returned S → List ℕ → Left S
  replaces b a vram = leaves a vram b.map b.frame b.notes []

  -- One that changes VRAM and map.
  abbrev pub writes : Bench → Returned S → List ℕ → List ℕ → Left S
  writes b a vram map = leaves a vram map b.frame b.notes []

  -- One that changes VRAM and map, and fills slices of its own.
  abbrev pub runs : Bench → Returned S → List ℕ → List ℕ → List (List ℕ) → Left S
  runs b a vram map slices = leaves a vram map b.frame b.notes slices

  -- One that changes map, frame and notes.
  abbrev pub draws : Bench → Returned S → List ℕ → List ℕ → List ℕ → Left S
  draws b a map frame notes = leaves a b.vram map frame notes []
