-- The invariant of demand 3: a frame is clean when every line that is not due stands as a full draw would leave it.
use Prim.Native.Nat.{ℕ, ◌/◌, ◌<◌}
use mathlib.Core.Path.{◌≡◌, refl, ap, ap₂, ◌∙◌}
use mathlib.Core.Bool.{Bool, true, false, cond, ◌||◌}
use mathlib.Core.List.{List}
use lib.ListN.{length, get_or, set}
use Rattle.chip.specs.Map.{set_dirty}
use Rattle.chip.proofs.Laws.Refusals.{differ, neither}
use Rattle.chip.proofs.Laws.Lists.{length-tabulate, get_d_tabulate, tabulated}
use Rattle.fetches.specs.Fetch.{value, fetched, any_dirty}
use Rattle.fetches.proofs.Laws.{same-value, same-fetched}
use Rattle.scanline.specs.Line.{line_of, colours_of, colour_at}
use Rattle.scanline.specs.Notes.{note_of}
use Rattle.scanline.specs.Calls.{note_at, colours}
use Rattle.frame.specs.Lines.{line_at}
use Rattle.frame.specs.Draw.{frame_of, notes_of}
use Rattle.frame.specs.Due.{due, new_frame, new_notes, new_line, new_note}
use Rattle.frame.proofs.Laws.Lines.{end_same, line-of-end}
use Rattle.frame.proofs.Laws.Dirty.{none-dirty-before}

pub record Clean (redraw : Bool) (r vram map frame notes : List ℕ) : Type 0 where
  pub line : (l : ℕ) → l < 192 → due redraw r vram map l ≡ false → line_at frame l ≡ colours r vram l
  pub note : (l : ℕ) → l < 192 → due redraw r vram map l ≡ false → get_or notes l 0 ≡ note_at r vram l

-- of a choice whose second is the first where the test fails
module _ {A : Type 0} where
  chosen : (b : Bool) (x y : A) → (b ≡ false → y ≡ x) → cond b x y ≡ x
  chosen true x y f = refl
  chosen false x y f = f refl

-- With the redraw mark set every line is due, so that any frame is clean.
pub clean-while-redraw : (r vram map frame notes : List ℕ) → Clean true r vram map frame notes
unfolding due
clean-while-redraw r vram map frame notes = record { line = λ l h e. absurd (differ e); note = λ l h e. absurd (differ e) }

-- What a full draw leaves is clean, whatever is due.
pub clean-drawn : (redraw : Bool) (r vram map : List ℕ) → Clean redraw r vram map (frame_of r vram) (notes_of r vram)
clean-drawn redraw r vram map =
    record {
      line = λ l h e. line-of-end (colours r vram) 192 (λ k below. length-tabulate 256 (colour_at r (value (line_of r k) vram))) l h;
      note = λ l h e. get_d_tabulate 192 (note_at r vram) l h;
    }

module _ {redraw : Bool} {r vram map frame notes : List ℕ} (c : Clean redraw r vram map frame notes) where
  -- A refresh of a clean frame leaves what a full draw leaves.
  pub refreshed-frame : new_frame redraw r vram map frame ≡ frame_of r vram
  refreshed-frame = end_same 192 (new_line redraw r vram map frame) (colours r vram) (λ l h. chosen (due redraw r vram map l) (colours r vram l) (line_at frame l) (c.line l h))

  pub refreshed-notes : new_notes redraw r vram map notes ≡ notes_of r vram
  refreshed-notes =
      tabulated (length-tabulate 192 (new_note redraw r vram map notes)) (λ l h. get_d_tabulate 192 (new_note redraw r vram map notes) l h ∙ chosen (due redraw r vram map l) (note_at r vram l) (get_or notes l 0) (c.note l h))

  -- A line that is not due after a data write was not due before, and reads the same.
  unread : (i x : ℕ) → i / 8 < length map → (l : ℕ) → due redraw r (set vram i x) (set_dirty map i) l ≡ false → (due redraw r vram map l ≡ false) × (value (line_of r l) vram ≡ value (line_of r l) (set vram i x))
  unfolding due
  unread i x h l e =
      let both = neither redraw (any_dirty (set_dirty map i) (fetched (line_of r l) (set vram i x))) e in
      let u = none-dirty-before map vram i x (fetched (line_of r l) (set vram i x)) h both.1 in
      let fetches = same-fetched (line_of r l) (set vram i x) vram u.1 in
      (ap₂ (λ (p q : Bool). p || q) both.0 (ap (any_dirty map) fetches ∙ u.0), same-value (line_of r l) (set vram i x) vram u.1)

  -- So a data write keeps it clean.
  pub clean-written : (i x : ℕ) → i / 8 < length map → Clean redraw r (set vram i x) (set_dirty map i) frame notes
  clean-written i x h =
      record {
        line = λ l below e. let u = unread i x h l e in c.line l below u.0 ∙ ap (colours_of r) u.1;
        note = λ l below e. let u = unread i x h l e in c.note l below u.0 ∙ ap (note_of r) u.1;
      }
