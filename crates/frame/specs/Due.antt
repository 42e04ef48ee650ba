-- Which lines a refresh redraws, and what it leaves.
use Rattle.std.specs.Prelude.{ℕ, Bool, cond, ◌||◌, List, get_or}
use Rattle.chip.specs.Lists.{tabulate}
use Rattle.fetches.specs.Fetch.{fetched, any_dirty}
use Rattle.scanline.specs.Line.{line_of}
use Rattle.scanline.specs.Calls.{note_at, colours}
use Rattle.frame.specs.Lines.{line_count, lines_end_to_end, line_at, count_below}

-- Whether line l is "due", as the scope calls it: always while the redraw mark is set, otherwise if a byte that it fetches is
-- dirty.
unfoldable pub due : Bool → List ℕ → List ℕ → List ℕ → ℕ → Bool
due redraw r vram map l = redraw || any_dirty map (fetched (line_of r l) vram)

-- Line l of the frame after a refresh, and its note. A due line is "redrawn", in the scope's word: both become those of a
-- full draw. Any other line keeps both as lent.
abbrev pub new_line : Bool → List ℕ → List ℕ → List ℕ → List ℕ → ℕ → List ℕ
new_line redraw r vram map frame l = cond (due redraw r vram map l) (colours r vram l) (line_at frame l)

abbrev pub new_note : Bool → List ℕ → List ℕ → List ℕ → List ℕ → ℕ → ℕ
new_note redraw r vram map notes l = cond (due redraw r vram map l) (note_at r vram l) (get_or notes l 0)

abbrev pub new_frame : Bool → List ℕ → List ℕ → List ℕ → List ℕ → List ℕ
new_frame redraw r vram map frame = lines_end_to_end line_count (new_line redraw r vram map frame)

abbrev pub new_notes : Bool → List ℕ → List ℕ → List ℕ → List ℕ → List ℕ
new_notes redraw r vram map notes = tabulate line_count (new_note redraw r vram map notes)

-- What a refresh reports: the count of due lines among the 192.
abbrev pub due_count : Bool → List ℕ → List ℕ → List ℕ → ℕ
due_count redraw r vram map = count_below line_count (due redraw r vram map)
