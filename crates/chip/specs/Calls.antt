-- The port calls: the tests that each makes, and its answer, accepted or refused. What they leave in lent slices stands beside.
use Rattle.std.specs.Prelude.{ℕ, List, [], ◌∷◌}
use mir.Val.{bool_byte}
use Rattle.chip.specs.State.{power_up_state}
use Rattle.chip.specs.Map.{map_size, set_dirty}
use Rattle.chip.specs.Ports.{control, data_written, stored, after_data_read, after_status_read, display_ended, interrupt_on, was_reset, cleared_vram}
use Rattle.chip.specs.Refusals.{Outcome, Test, vram_test, slice_test, state_test, refusal_of, if_accepted, answered}
use Rattle.chip.specs.declared.state.Chip.{Chip}
use Rattle.chip.specs.declared.refusal.Answer.{Answer}

-- Power-up does not test the state, which it replaces.
abbrev pub power_up_tests : List ℕ → List Test
power_up_tests vram = vram_test vram ∷ []

abbrev pub power_up_refusal : List ℕ → Outcome
power_up_refusal vram = refusal_of (power_up_tests vram)

abbrev pub power_up : Chip → List ℕ → Answer
power_up c vram = answered (power_up_refusal vram) c power_up_state 0

abbrev pub power_up_vram : List ℕ → List ℕ
power_up_vram vram = if_accepted (power_up_refusal vram) cleared_vram vram

abbrev pub control_write_tests : Chip → List ℕ → List Test
control_write_tests c vram = vram_test vram ∷ state_test c ∷ []

abbrev pub control_write : Chip → List ℕ → ℕ → Answer
control_write c vram b = answered (refusal_of (control_write_tests c vram)) c (control b vram c) 0

abbrev pub data_write_tests : Chip → List ℕ → List ℕ → List Test
data_write_tests c vram map = vram_test vram ∷ slice_test map_size map ∷ state_test c ∷ []

abbrev pub data_write_refusal : Chip → List ℕ → List ℕ → Outcome
data_write_refusal c vram map = refusal_of (data_write_tests c vram map)

abbrev pub data_write : Chip → List ℕ → List ℕ → ℕ → Answer
data_write c vram map b = answered (data_write_refusal c vram map) c (data_written b c) 0

abbrev pub data_write_vram : Chip → List ℕ → List ℕ → ℕ → List ℕ
data_write_vram c vram map b = if_accepted (data_write_refusal c vram map) (stored b c vram) vram

abbrev pub data_write_map : Chip → List ℕ → List ℕ → List ℕ
data_write_map c vram map = if_accepted (data_write_refusal c vram map) (set_dirty map c.address) map

abbrev pub data_read_tests : Chip → List ℕ → List Test
data_read_tests c vram = vram_test vram ∷ state_test c ∷ []

abbrev pub data_read : Chip → List ℕ → Answer
data_read c vram = answered (refusal_of (data_read_tests c vram)) c (after_data_read vram c) c.buffer

abbrev pub status_read_tests : Chip → List Test
status_read_tests c = state_test c ∷ []

abbrev pub status_read : Chip → Answer
status_read c = answered (refusal_of (status_read_tests c)) c (after_status_read c) c.status

abbrev pub end_of_display_tests : Chip → List Test
end_of_display_tests c = state_test c ∷ []

abbrev pub end_of_display : Chip → Answer
end_of_display c = answered (refusal_of (end_of_display_tests c)) c (display_ended c) 0

abbrev pub interrupt_line_tests : Chip → List Test
interrupt_line_tests c = state_test c ∷ []

-- The interrupt line is answered as 1 or 0.
abbrev pub interrupt_line : Chip → Answer
interrupt_line c = answered (refusal_of (interrupt_line_tests c)) c c (bool_byte (interrupt_on c))

abbrev pub reset_tests : Chip → List Test
reset_tests c = state_test c ∷ []

abbrev pub reset : Chip → Answer
reset c = answered (refusal_of (reset_tests c)) c (was_reset c) 0
