-- What code leaves that redraws a frame by a byte for each row of names. No promise of a call rests on it.
use Rattle.std.specs.Prelude.{ℕ, ◌/◌, ◌%◌, Bool, cond, List, get_or}
use Rattle.chip.specs.Bits.{bit}
use Rattle.scanline.specs.Calls.{note_at, colours}
use Rattle.frame.specs.Lines.{line_at}

-- Whether line l is due by a byte for each row of names, and what the lines and notes of a whole frame are after a redraw by them.
abbrev pub due_bit : List ℕ → ℕ → Bool
due_bit rows l = bit (l % 8) (get_or rows (l / 8) 0)

abbrev pub line_by : List ℕ → List ℕ → List ℕ → List ℕ → ℕ → List ℕ
line_by rows r vram frame l = cond (due_bit rows l) (colours r vram l) (line_at frame l)

abbrev pub note_by_rows : List ℕ → List ℕ → List ℕ → List ℕ → ℕ → ℕ
note_by_rows rows r vram notes l = cond (due_bit rows l) (note_at r vram l) (get_or notes l 0)
