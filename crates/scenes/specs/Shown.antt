-- The state that a line is shown from.
use Rattle.std.specs.Prelude.{ℕ, false, List, None}
use Rattle.chip.specs.declared.state.Chip.{Chip}

-- These registers and this status; the rest is as at power-up, with no redraw due.
abbrev pub state_of : List ℕ → ℕ → Chip
state_of r s = record { registers = r; address = 0; buffer = 0; waiting = None; status = s; redraw = false; lost = 0 }
