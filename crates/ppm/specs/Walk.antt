-- The walk over the output: where it starts, and what each step writes.
use Rattle.std.specs.Prelude.{ℕ, ◌+◌, ◌-◌, true, false, List, eqb, replicate, Result, Ok, Err}
use Rattle.chip.specs.State.{power_up_state}
use Rattle.chip.specs.Refusals.{refusal_number, if_accepted}
use Rattle.chip.specs.declared.refusal.Refusal.{Refusal}
use Rattle.scanline.specs.Calls.{colours}
use Rattle.scanline.specs.Colours.{draw_colours_refusal}
use Rattle.frame.specs.Lines.{line_count}
use Rattle.snapshot.specs.Calls.{read_refusal, read_snapshot}
use Rattle.text.specs.Lines.{refused_text}
use Rattle.text.specs.Pieces.{Step, writes_nothing}
use Rattle.ppm.specs.declared.walk.Next.{Next}
use Rattle.ppm.specs.declared.walk.Next.TheVariants.{Refused, Header, Line}
use Rattle.ppm.specs.declared.walk.Walk.{Walk}
use Rattle.ppm.specs.Picture.{header, painted}

-- What is written first, by how reading the file was answered.
module _ {A : Type 0} where
  abbrev pub first_next : Result A Refusal → Next
  first_next (Ok x) = Header
  first_next (Err r) = Refused r

-- The file is read from the power-up state, into the VRAM given.
abbrev pub start_walk : List ℕ → List ℕ → Walk
start_walk vram file = record { next = first_next (read_refusal vram file); chip = (read_snapshot power_up_state vram file).chip }

-- The walk with another piece next.
abbrev pub going : Walk → Next → Walk
going w n = record { next = n; chip = w.chip }

-- The pixels of line l, of which the last is line 191. Where the line cannot be drawn, nothing is written.
abbrev pub line_step : List ℕ → Walk → ℕ → Step Walk
line_step vram w l =
    if_accepted (draw_colours_refusal w.chip vram (replicate 256 0) l)
    (record { bytes = painted (colours w.chip.registers vram l); walk = going w (Line (l + 1)); last = eqb l 191 })
    (writes_nothing w)

abbrev pub step_at : List ℕ → Next → Walk → Step Walk
step_at vram (Refused r) w = record { bytes = refused_text (refusal_number r); walk = w; last = true }
step_at vram Header w = record { bytes = header; walk = going w (Line 0); last = false }
step_at vram (Line l) w = line_step vram w l

unfoldable pub step_of : List ℕ → Walk → Step Walk
step_of vram w = step_at vram w.next w

-- How many steps are left at most.
abbrev pub left_from : Next → ℕ
left_from (Refused r) = 1
left_from Header = line_count + 1
left_from (Line l) = line_count - l

abbrev pub steps_left : Walk → ℕ
steps_left w = left_from w.next
