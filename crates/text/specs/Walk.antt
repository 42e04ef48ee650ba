-- The output as the calls `start` and `step` write it.
use Rattle.std.specs.Prelude.{ℕ, ◌+◌, ◌-◌, Bool, true, false, cond, ◌&&◌, List, [], eqb, leb, ltb, length, replicate, Result, Ok, Err}
use Rattle.chip.specs.State.{vram_size, well_formed, power_up_state}
use Rattle.chip.specs.Refusals.{refusal_number}
use Rattle.chip.specs.declared.state.Chip.{Chip}
use Rattle.chip.specs.declared.refusal.Refusal.{Refusal}
use Rattle.snapshot.specs.Calls.{read_refusal, read_snapshot}
use Rattle.scanline.specs.Calls.{colours}
use Rattle.frame.specs.Lines.{line_count}
use Rattle.frame.specs.Draw.{notes_of, drawn_state}
use Rattle.text.specs.Runs.{same}
use Rattle.text.specs.Lines.{refused_text, status_text, range_text}
use Rattle.text.specs.Pieces.{Step, writes_nothing}
use Rattle.text.specs.declared.walk.Next.{Next}
use Rattle.text.specs.declared.walk.Next.TheVariants.{Refused, Status, Line, End}
use Rattle.text.specs.declared.walk.Walk.{Walk}

-- What is first, by how reading the file was answered.
module _ {A : Type 0} where
  abbrev pub first_next : Result A Refusal → Next
  first_next (Ok x) = Status
  first_next (Err r) = Refused r

-- The file is read from the power-up state into VRAM. (What VRAM then holds: see `read_vram`.)
abbrev pub start_walk : List ℕ → List ℕ → Walk
start_walk vram file =
    record {
      next = first_next (read_refusal vram file);
      chip = (read_snapshot power_up_state vram file).chip;
      from = 0;
      to = 0;
      colours = replicate 256 0;
    }

-- The line of a refusal.
abbrev pub refused_step : Walk → Refusal → Step Walk
refused_step w r = record { bytes = refused_text (refusal_number r); walk = w; last = true }

-- The walk with another piece next, and another range so far.
abbrev pub going : Walk → Next → ℕ → ℕ → List ℕ → Walk
going w next from to each = record { next = next; chip = w.chip; from = from; to = to; colours = each }

-- The status line. Line 0 is then the range so far.
abbrev pub status_step : List ℕ → Walk → Step Walk
status_step vram w =
    record {
      bytes = status_text w.chip.status (drawn_state w.chip (notes_of w.chip.registers vram)).status;
      walk = going w (Line 1) 0 0 (colours w.chip.registers vram 0);
      last = false;
    }

-- The text of the range so far.
abbrev pub range_so_far : Walk → List ℕ
range_so_far w = range_text w.from w.to w.colours

-- Line l, or the end where there is no such line.
abbrev pub next_at : ℕ → Next
next_at l = cond (ltb l line_count) (Line l) End

-- Line l goes on with the range so far, or it starts the next, and the text of the range so far is written.
abbrev pub line_step_by : Bool → Walk → ℕ → List ℕ → Step Walk
line_step_by true w l line = record { bytes = []; walk = going w (next_at (l + 1)) w.from l w.colours; last = false }
line_step_by false w l line = record { bytes = range_so_far w; walk = going w (next_at (l + 1)) l l line; last = false }

unfoldable pub line_step : List ℕ → Walk → ℕ → Step Walk
line_step vram w l = line_step_by (same w.colours (colours w.chip.registers vram l)) w l (colours w.chip.registers vram l)

-- The text of the last range.
abbrev pub end_step : Walk → Step Walk
end_step w = record { bytes = range_so_far w; walk = w; last = true }

-- Whether lines can be drawn: VRAM has its length, and the state is well-formed.
abbrev pub drawable : Chip → List ℕ → Bool
drawable c vram = eqb (length vram) vram_size && well_formed c

-- Where a line cannot be drawn, nothing is written, and nothing follows.
unfoldable pub step_at : List ℕ → Next → Walk → Step Walk
step_at vram (Refused r) w = refused_step w r
step_at vram Status w = cond (drawable w.chip vram) (status_step vram w) (writes_nothing w)
step_at vram (Line l) w = cond (leb l 191 && drawable w.chip vram) (line_step vram w l) (writes_nothing w)
step_at vram End w = end_step w

unfoldable pub step_of : List ℕ → Walk → Step Walk
step_of vram w = step_at vram w.next w

-- How many steps are left at most.
abbrev pub left_from : Next → ℕ
left_from (Refused r) = 1
left_from Status = line_count + 1
left_from (Line l) = line_count + 1 - l
left_from End = 1

abbrev pub steps_left : Walk → ℕ
steps_left w = left_from w.next
