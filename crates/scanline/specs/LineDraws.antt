-- Calls that draw a line, in order from line 0.
use Rattle.std.specs.Prelude.{ℕ, zero, suc, List}
use Rattle.chip.specs.declared.state.Chip.{Chip}
use Rattle.scanline.specs.Calls.{draw_line, draw_line_line}

-- The slices that are lent for line l: for its colours, and for its origins.
pub record Slices : Type 0 where
  pub line : ℕ → List ℕ
  pub codes : ℕ → List ℕ

-- The state after the draws of lines 0 to n - 1, each from the state that the one before handed back.
unfoldable pub state_after : ℕ → Chip → List ℕ → Slices → Chip
state_after zero c vram s = c
state_after (suc n) c vram s = (draw_line (state_after n c vram s) vram (s.line n) (s.codes n) n).chip

-- What the draw of line l leaves in its slice for colours.
abbrev pub drawn_line : Chip → List ℕ → Slices → ℕ → List ℕ
drawn_line c vram s l = draw_line_line (state_after l c vram s) vram (s.line l) (s.codes l) l
