-- The call that answers the colour of one point, and where it comes from.
use Rattle.std.specs.Prelude.{ℕ, List, [], ◌∷◌, Result, Ok, Err}
use Rattle.chip.specs.Refusals.{Outcome, Test, vram_test, state_test, line_test, column_test, refusal_of, giving}
use Rattle.chip.specs.declared.state.Chip.{Chip}
use Rattle.chip.specs.declared.refusal.Answer.{Answer}
use Rattle.chip.specs.declared.refusal.Refusal.{Refusal}
use Rattle.fetches.specs.Fetch.{value}
use Rattle.planes.specs.Origin.{origin_code}
use Rattle.planes.specs.declared.origin.Pixel.{Pixel}
use Rattle.point.specs.Point.{point_of, colour_of, spot_pixel}
use Rattle.point.specs.declared.numbers.Point.{Point}
use Rattle.point.specs.declared.call.PointAnswer.{PointAnswer}

-- The colour at line l and column x, from registers and VRAM.
abbrev pub point_colour : List ℕ → List ℕ → ℕ → ℕ → ℕ
point_colour r vram l x = colour_of r (value (point_of r l x) vram) x

-- The pixel there, and the code of its origin.
abbrev pub point_pixel : List ℕ → List ℕ → ℕ → ℕ → Pixel
point_pixel r vram l x = spot_pixel r (value (point_of r l x) vram) x

abbrev pub point_origin : List ℕ → List ℕ → ℕ → ℕ → ℕ
point_origin r vram l x = origin_code (point_pixel r vram l x).origin

-- The tests of what this call alone is given: the numbers of the line and the column.
abbrev pub point_own_tests : ℕ → ℕ → List Test
point_own_tests l x = line_test l ∷ column_test x ∷ []

abbrev pub point_tests : Chip → List ℕ → ℕ → ℕ → List Test
point_tests c vram l x = vram_test vram ∷ state_test c ∷ point_own_tests l x

-- How they end: all passed, or a refusal.
abbrev pub point_refusal : Chip → List ℕ → ℕ → ℕ → Outcome
point_refusal c vram l x = refusal_of (point_tests c vram l x)

-- What is answered: two numbers, the colour and the code of its origin, or the refusal.
abbrev pub point_given : Outcome → ℕ → ℕ → Result Point Refusal
point_given r colour origin = giving r (record { colour = colour; origin = origin })

abbrev pub point_at : Chip → List ℕ → ℕ → ℕ → Result Point Refusal
point_at c vram l x = point_given (point_refusal c vram l x) (point_colour c.registers vram l x) (point_origin c.registers vram l x)

-- The state stays as it was, status with it.
abbrev pub point : Chip → List ℕ → ℕ → ℕ → PointAnswer
point c vram l x = record { chip = c; result = point_at c vram l x }

-- The same with one of the two numbers, as other calls answer.
abbrev pub number_by : (Point → ℕ) → Result Point Refusal → Result ℕ Refusal
number_by number (Ok p) = Ok (number p)
number_by number (Err r) = Err r

abbrev pub colour_answer : PointAnswer → Answer
colour_answer a = record { chip = a.chip; result = number_by (λ p. p.colour) a.result }

abbrev pub origin_answer : PointAnswer → Answer
origin_answer a = record { chip = a.chip; result = number_by (λ p. p.origin) a.result }
