-- The call that draws a line.
use Rattle.std.specs.Prelude.{ℕ, List, [], ◌∷◌}
use Rattle.chip.specs.Refusals.{Outcome, Test, vram_test, slice_test, state_test, line_test, refusal_of, if_accepted, answered}
use Rattle.chip.specs.State.{with_status}
use Rattle.chip.specs.declared.state.Chip.{Chip}
use Rattle.chip.specs.declared.refusal.Answer.{Answer}
use Rattle.fetches.specs.Fetch.{value}
use Rattle.scanline.specs.Line.{line_of, colours_of, origins_of}
use Rattle.scanline.specs.Notes.{note_of, status_after}

abbrev pub line_size : ℕ
line_size = 256

-- Line l's note, from registers and VRAM.
abbrev pub note_at : List ℕ → List ℕ → ℕ → ℕ
note_at r vram l = note_of r (value (line_of r l) vram)

-- The line's 256 colours, and the codes of their origins.
abbrev pub colours : List ℕ → List ℕ → ℕ → List ℕ
colours r vram l = colours_of r (value (line_of r l) vram)

abbrev pub origins : List ℕ → List ℕ → ℕ → List ℕ
origins r vram l = origins_of r (value (line_of r l) vram)

-- The tests of what this call alone is given: the slices lent for colours (line) and origins (codes), and the line number.
abbrev pub draw_line_own_tests : List ℕ → List ℕ → ℕ → List Test
draw_line_own_tests line codes l = slice_test line_size line ∷ slice_test line_size codes ∷ line_test l ∷ []

abbrev pub draw_line_tests : Chip → List ℕ → List ℕ → List ℕ → ℕ → List Test
draw_line_tests c vram line codes l = vram_test vram ∷ state_test c ∷ draw_line_own_tests line codes l

-- How they end: all passed, or a refusal.
abbrev pub draw_line_refusal : Chip → List ℕ → List ℕ → List ℕ → ℕ → Outcome
draw_line_refusal c vram line codes l = refusal_of (draw_line_tests c vram line codes l)

-- The line's note updates status, and nothing else of the state changes.
abbrev pub draw_line : Chip → List ℕ → List ℕ → List ℕ → ℕ → Answer
draw_line c vram line codes l =
    answered (draw_line_refusal c vram line codes l) c (with_status (status_after c.status (note_at c.registers vram l)) c) 0

abbrev pub draw_line_line : Chip → List ℕ → List ℕ → List ℕ → ℕ → List ℕ
draw_line_line c vram line codes l = if_accepted (draw_line_refusal c vram line codes l) (colours c.registers vram l) line

abbrev pub draw_line_origins : Chip → List ℕ → List ℕ → List ℕ → ℕ → List ℕ
draw_line_origins c vram line codes l = if_accepted (draw_line_refusal c vram line codes l) (origins c.registers vram l) codes
