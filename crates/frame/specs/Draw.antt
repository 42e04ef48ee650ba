-- What a full draw leaves: functions of registers, status and VRAM alone.
use Rattle.std.specs.Prelude.{ℕ, false, List, replicate}
use Rattle.chip.specs.Lists.{tabulate}
use Rattle.chip.specs.Map.{map_size}
use Rattle.chip.specs.State.{with_status, with_redraw}
use Rattle.chip.specs.declared.state.Chip.{Chip}
use Rattle.scanline.specs.Calls.{note_at, colours}
use Rattle.scanline.specs.Notes.{status_through}
use Rattle.frame.specs.Lines.{line_count, lines_end_to_end}

-- Lines 0 to 191 in order.
abbrev pub frame_of : List ℕ → List ℕ → List ℕ
frame_of r vram = lines_end_to_end line_count (colours r vram)

-- The note of each line.
abbrev pub notes_of : List ℕ → List ℕ → List ℕ
notes_of r vram = tabulate line_count (note_at r vram)

-- The map is cleared.
abbrev pub clear_map : List ℕ
clear_map = replicate map_size 0

-- The state after a draw with these notes: status is updated by them, and the redraw mark is cleared.
abbrev pub drawn_state : Chip → List ℕ → Chip
drawn_state c notes = with_redraw false (with_status (status_through c.status notes) c)
