-- A line drawn by its colours alone, where no slice is lent for origins: the call that draws a line, with 256 zeros in that slice's
-- place. Any other 256 bytes give the same (proofs/ColoursAlone.antt).
use Rattle.std.specs.Prelude.{ℕ, List, replicate}
use Rattle.chip.specs.Refusals.{Outcome, Test}
use Rattle.chip.specs.declared.state.Chip.{Chip}
use Rattle.chip.specs.declared.refusal.Answer.{Answer}
use Rattle.scanline.specs.Calls.{line_size, draw_line_tests, draw_line_refusal, draw_line, draw_line_line}

abbrev pub zero_codes : List ℕ
zero_codes = replicate line_size 0

abbrev pub draw_colours_tests : Chip → List ℕ → List ℕ → ℕ → List Test
draw_colours_tests c vram line l = draw_line_tests c vram line zero_codes l

abbrev pub draw_colours_refusal : Chip → List ℕ → List ℕ → ℕ → Outcome
draw_colours_refusal c vram line l = draw_line_refusal c vram line zero_codes l

abbrev pub draw_colours : Chip → List ℕ → List ℕ → ℕ → Answer
draw_colours c vram line l = draw_line c vram line zero_codes l

abbrev pub draw_colours_line : Chip → List ℕ → List ℕ → ℕ → List ℕ
draw_colours_line c vram line l = draw_line_line c vram line zero_codes l
