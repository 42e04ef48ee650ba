-- A line drawn by colours alone is the line's draw, lent any slice of 256 bytes for the origins: the same answer, the same next state
-- and the same colours, accepted or refused.
use Prim.Native.Nat.{ℕ}
use mathlib.Core.Path.{◌≡◌, sym, ap, ◌∙◌}
use mathlib.Core.List.{List, [], ◌∷◌}
use lib.Dec.{eqb}
use lib.ListN.{length, length-replicate}
use Rattle.chip.specs.Refusals.{vram_test, slice_test, state_test, line_test, refusal_of, if_accepted, answered}
use Rattle.chip.specs.State.{with_status}
use Rattle.chip.specs.declared.state.Chip.{Chip}
use Rattle.chip.specs.declared.refusal.Refusal.TheVariants.{SliceLength}
use Rattle.scanline.specs.Notes.{status_after}
use Rattle.scanline.specs.Calls.{line_size, note_at, colours, draw_line_refusal, draw_line, draw_line_line}
use Rattle.scanline.specs.Colours.{zero_codes, draw_colours_refusal, draw_colours, draw_colours_line}

module _ (c : Chip) (vram line : List ℕ) (l : ℕ) (codes : List ℕ) (wide : length codes ≡ line_size) where
  -- of the slice for origins the tests look at the length alone
  pub same-refusal : draw_colours_refusal c vram line l ≡ draw_line_refusal c vram line codes l
  same-refusal =
      let both : eqb (length zero_codes) line_size ≡ eqb (length codes) line_size = ap (λ (n : ℕ). eqb n line_size) (length-replicate {A = ℕ} 256 0) ∙ ap (λ (n : ℕ). eqb n line_size) (sym wide) in
      λ i. refusal_of (vram_test vram ∷ state_test c ∷ slice_test line_size line ∷ record { refusal = SliceLength; passes = both i } ∷ line_test l ∷ [])

  pub same_answer : draw_colours c vram line l ≡ draw_line c vram line codes l
  same_answer = λ i. answered (same-refusal i) c (with_status (status_after c.status (note_at c.registers vram l)) c) 0

  pub same_line : draw_colours_line c vram line l ≡ draw_line_line c vram line codes l
  same_line = λ i. if_accepted (same-refusal i) (colours c.registers vram l) line
