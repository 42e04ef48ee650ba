-- A full draw is the 192 line draws in order.
use Prim.Native.Nat.{ℕ, ◌<◌}
use native.Mathlib.Omega.{arith}
use mathlib.Core.Path.{◌≡◌, sym, ap, ◌∙◌}
use mathlib.Core.Bool.{true, false}
use mathlib.Core.List.{List, [], ◌∷◌}
use lib.ListN.{length}
use borrow.Author.Tests.{eq-eqb}
use Rattle.chip.specs.State.{well_formed, with_redraw}
use Rattle.chip.specs.Refusals.{vram_test, slice_test, state_test}
use Rattle.chip.specs.declared.state.Chip.{Chip}
use Rattle.std.specs.Prelude.{Ok}
use Rattle.chip.proofs.Laws.Refusals.{the-new, the-value, all-accepted}
use Rattle.scanline.specs.Notes.{status_through}
use Rattle.scanline.specs.Calls.{colours, draw_line}
use Rattle.scanline.specs.LineDraws.{Slices, state_after, drawn_line}
use Rattle.scanline.proofs.Laws.LineDraws.{noted, state-after, each-accepted, each-drawn}
use Rattle.frame.specs.Lines.{lines_end_to_end}
use Rattle.frame.specs.Draw.{frame_of, notes_of, drawn_state}
use Rattle.frame.specs.Calls.{draw_refusal, full_draw, full_draw_frame, full_draw_notes}
use Rattle.frame.proofs.Laws.Lines.{end_same}

full-accepted : (c : Chip) (vram map frame notes : List ℕ) → well_formed c ≡ true → length vram ≡ 16384 → length map ≡ 2048 → length frame ≡ 49152 → length notes ≡ 192 → draw_refusal c vram map frame notes ≡ Ok tt
full-accepted c vram map frame notes ok v m f n =
    all-accepted (vram_test vram ∷ slice_test 2048 map ∷ slice_test 49152 frame ∷ slice_test 192 notes ∷ state_test c ∷ [])
    (eq-eqb _ _ v, (eq-eqb _ _ m, (eq-eqb _ _ f, (eq-eqb _ _ n, (ok, tt)))))

-- Take any well-formed state, any 16,384 bytes of VRAM, and slices for map, frame and notes of the right lengths, whatever
-- they hold. Beside a full draw, draw lines 0 to 191 in order by the call that draws a line, each from the state that the
-- draw before handed back, each into any two slices of 256 bytes, for its colours and its origins: the same lent again and again,
-- parts of a frame, or others.
-- Then the full draw is accepted, and so is every line draw; the frame is what the line draws left in their slices for
-- colours, end to end; and the state is the one that the last line draw handed back, with the redraw mark cleared. Its status is
-- the one before, updated by the notes that the full draw wrote, in order.
pub full-draw-is-line-draws : (c : Chip) → well_formed c ≡ true
    → (vram : List ℕ) → length vram ≡ 16384
    → (map frame notes : List ℕ) → length map ≡ 2048 → length frame ≡ 49152 → length notes ≡ 192
    → (slices : Slices) → ((l : ℕ) → (length (slices.line l) ≡ 256) × (length (slices.codes l) ≡ 256))
    → ((full_draw c vram map frame notes).result ≡ Ok 0)
    × ((l : ℕ) → l < 192 → (draw_line (state_after l c vram slices) vram (slices.line l) (slices.codes l) l).result ≡ Ok 0)
    × (full_draw_frame c vram map frame notes ≡ lines_end_to_end 192 (drawn_line c vram slices))
    × ((full_draw c vram map frame notes).chip ≡ with_redraw false (state_after 192 c vram slices))
    × ((state_after 192 c vram slices).status ≡ status_through c.status (full_draw_notes c vram map frame notes))
full-draw-is-line-draws c ok vram full map frame notes m f n slices wide =
    let r = c.registers in
    let accepted = full-accepted c vram map frame notes ok full m f n in
    let state : state_after 192 c vram slices ≡ noted 192 c vram = state-after vram full slices wide c ok 192 (omega arith) in (
      the-value accepted 0,
      λ l h. the-value (each-accepted vram full slices wide c ok l h) 0,
      the-new accepted (frame_of r vram) frame
          ∙ sym (end_same 192 (drawn_line c vram slices) (colours r vram) (each-drawn vram full slices wide c ok)),
      the-new accepted (drawn_state c (notes_of r vram)) c ∙ sym (ap (with_redraw false) state),
      ap (λ (d : Chip). d.status) state ∙ sym (ap (status_through c.status) (the-new accepted (notes_of r vram) notes)),
    )
