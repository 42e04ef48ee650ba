-- The whole output of `pixel`, for any words that it is called with and any bytes that come in.
use Rattle.std.specs.Prelude.{ℕ, cond, List, [], ◌∷◌, ◌++◌}
use Rattle.chip.specs.Refusals.{number_of, if_accepted}
use Rattle.chip.specs.declared.state.Chip.{Chip}
use Rattle.point.specs.Calls.{point_colour, point_origin, point_refusal}
use Rattle.text.specs.Lines.{refused_text}
use Rattle.text.specs.Numbers.{decimal}
use Rattle.text.specs.Output.{output_of}
use Rattle.pixel.specs.Arguments.{number_in, rightly_called}
use Rattle.pixel.specs.Names.{name_of}
use Rattle.pixel.specs.Origins.{origin_text}

-- `usage: pixel LINE COLUMN <SNAPSHOT`
abbrev pub usage_text : List ℕ
usage_text =
    117 ∷ 115 ∷ 97 ∷ 103 ∷ 101 ∷ 58 ∷ 32 ∷
    112 ∷ 105 ∷ 120 ∷ 101 ∷ 108 ∷ 32 ∷ 76 ∷ 73 ∷ 78 ∷ 69 ∷ 32 ∷
    67 ∷ 79 ∷ 76 ∷ 85 ∷ 77 ∷ 78 ∷ 32 ∷ 60 ∷ 83 ∷ 78 ∷ 65 ∷ 80 ∷ 83 ∷ 72 ∷ 79 ∷ 84 ∷ 10 ∷ []

-- A colour's number and name.
unfoldable pub colour_text : ℕ → List ℕ
colour_text colour = decimal colour ++ (32 ∷ (name_of colour ++ (10 ∷ [])))

-- The two lines of the point at line l and column x: its colour, and where that comes from.
unfoldable pub shown_text : List ℕ → List ℕ → ℕ → ℕ → List ℕ
shown_text r vram l x = colour_text (point_colour r vram l x) ++ origin_text r vram l x (point_origin r vram l x)

-- The same, or the line of the point's refusal.
unfoldable pub point_text : ℕ → ℕ → Chip → List ℕ → List ℕ
point_text l x c vram =
    if_accepted (point_refusal c vram l x)
    (shown_text c.registers vram l x)
    (refused_text (number_of (point_refusal c vram l x)))

-- A snapshot is read as `show` reads it, with its refusals; the point's come after.
unfoldable pub pixel_output : ℕ → List ℕ → List ℕ → List ℕ → List ℕ
pixel_output argc first second file =
    cond (rightly_called argc first second) (output_of (point_text (number_in first) (number_in second)) file) usage_text
