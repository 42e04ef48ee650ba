-- The calls: full draw and refresh, accepted or refused.
use Rattle.std.specs.Prelude.{ℕ, Bool, List, [], ◌∷◌}
use Rattle.chip.specs.Map.{map_size}
use Rattle.chip.specs.Refusals.{Outcome, Test, vram_test, slice_test, state_test, refusal_of, if_accepted, answered}
use Rattle.chip.specs.declared.state.Chip.{Chip}
use Rattle.chip.specs.declared.refusal.Answer.{Answer}
use Rattle.frame.specs.Lines.{frame_size, notes_size}
use Rattle.frame.specs.Draw.{frame_of, notes_of, clear_map, drawn_state}
use Rattle.frame.specs.Due.{new_frame, new_notes, due_count}

-- Both make the same tests.
abbrev pub draw_tests : Chip → List ℕ → List ℕ → List ℕ → List ℕ → List Test
draw_tests c vram map frame notes =
    vram_test vram ∷ slice_test map_size map ∷ slice_test frame_size frame ∷ slice_test notes_size notes ∷ state_test c ∷ []

-- How they end: all passed, or a refusal.
abbrev pub draw_refusal : Chip → List ℕ → List ℕ → List ℕ → List ℕ → Outcome
draw_refusal c vram map frame notes = refusal_of (draw_tests c vram map frame notes)

abbrev pub full_draw : Chip → List ℕ → List ℕ → List ℕ → List ℕ → Answer
full_draw c vram map frame notes = answered (draw_refusal c vram map frame notes) c (drawn_state c (notes_of c.registers vram)) 0

abbrev pub full_draw_frame : Chip → List ℕ → List ℕ → List ℕ → List ℕ → List ℕ
full_draw_frame c vram map frame notes = if_accepted (draw_refusal c vram map frame notes) (frame_of c.registers vram) frame

abbrev pub full_draw_notes : Chip → List ℕ → List ℕ → List ℕ → List ℕ → List ℕ
full_draw_notes c vram map frame notes = if_accepted (draw_refusal c vram map frame notes) (notes_of c.registers vram) notes

-- A refresh clears the map as a full draw does.
abbrev pub draw_map : Chip → List ℕ → List ℕ → List ℕ → List ℕ → List ℕ
draw_map c vram map frame notes = if_accepted (draw_refusal c vram map frame notes) clear_map map

-- The lines that are due with a redraw mark are redrawn, and the answer is how many. Status is updated by all 192 notes, the kept
-- ones too.
abbrev pub draw_due : Bool → Chip → List ℕ → List ℕ → List ℕ → List ℕ → Answer
draw_due redraw c vram map frame notes =
    answered (draw_refusal c vram map frame notes) c
    (drawn_state c (new_notes redraw c.registers vram map notes))
    (due_count redraw c.registers vram map)

abbrev pub draw_due_frame : Bool → Chip → List ℕ → List ℕ → List ℕ → List ℕ → List ℕ
draw_due_frame redraw c vram map frame notes = if_accepted (draw_refusal c vram map frame notes) (new_frame redraw c.registers vram map frame) frame

abbrev pub draw_due_notes : Bool → Chip → List ℕ → List ℕ → List ℕ → List ℕ → List ℕ
draw_due_notes redraw c vram map frame notes = if_accepted (draw_refusal c vram map frame notes) (new_notes redraw c.registers vram map notes) notes

-- A refresh goes by the state's own redraw mark.
abbrev pub refresh : Chip → List ℕ → List ℕ → List ℕ → List ℕ → Answer
refresh c vram map frame notes = draw_due c.redraw c vram map frame notes

abbrev pub refresh_frame : Chip → List ℕ → List ℕ → List ℕ → List ℕ → List ℕ
refresh_frame c vram map frame notes = draw_due_frame c.redraw c vram map frame notes

abbrev pub refresh_notes : Chip → List ℕ → List ℕ → List ℕ → List ℕ → List ℕ
refresh_notes c vram map frame notes = draw_due_notes c.redraw c vram map frame notes
