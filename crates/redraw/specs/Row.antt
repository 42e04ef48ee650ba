-- What code relies on, and leaves, that redraws the eight lines of one row of names. No promise of a call rests on it.
use Rattle.std.specs.Prelude.{ℕ, ◌+◌, ◌*◌, ◌<◌, ◌≡◌, true, false, cond, List, length, get_or}
use Rattle.chip.specs.Bits.{bit}
use Rattle.chip.specs.Lists.{tabulate}
use Rattle.chip.specs.Modes.{mode_of}
use Rattle.rows.specs.Rows.{plane_pixel}
use Rattle.sets.specs.Sets.{IsSet}
use Rattle.scanline.specs.Line.{has_sprites}
use Rattle.scanline.specs.Calls.{note_at, colours}
use Rattle.redraw.specs.Lines.{lines_end_to_end, line_at, count_below}

-- The set of line l's sprites: none in a mode that has no sprites.
pub record LineSet (r vram : List ℕ) (l set : ℕ) : Type 0 where
  pub some : has_sprites (mode_of r) ≡ true → IsSet r vram l set
  pub none : has_sprites (mode_of r) ≡ false → set ≡ 0

pub record LineSets (r vram sets : List ℕ) : Type 0 where
  pub long : length sets ≡ 192
  pub line : (l : ℕ) → l < 192 → LineSet r vram l (get_or sets l 0)

-- Line l's pattern plane over the backdrop, without sprites.
abbrev pub plane_line : List ℕ → List ℕ → ℕ → List ℕ
plane_line r vram l = tabulate 256 (plane_pixel (mode_of r) r vram l)

-- A row's eight lines after a redraw of those whose bit is set, their notes, and how many that are.
abbrev pub row_line : List ℕ → List ℕ → ℕ → ℕ → List ℕ → ℕ → List ℕ
row_line r vram row due part k = cond (bit k due) (colours r vram (8 * row + k)) (line_at part k)

abbrev pub row_note : List ℕ → List ℕ → ℕ → ℕ → List ℕ → ℕ → ℕ
row_note r vram row due notes k = cond (bit k due) (note_at r vram (8 * row + k)) (get_or notes k 0)

abbrev pub row_lines : List ℕ → List ℕ → ℕ → ℕ → List ℕ → List ℕ
row_lines r vram row due part = lines_end_to_end 8 (row_line r vram row due part)

abbrev pub row_notes : List ℕ → List ℕ → ℕ → ℕ → List ℕ → List ℕ
row_notes r vram row due notes = tabulate 8 (row_note r vram row due notes)

abbrev pub row_count : ℕ → ℕ
row_count due = count_below 8 (λ k. bit k due)
