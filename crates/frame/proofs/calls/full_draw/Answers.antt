-- `full_draw`: with the redraw mark set what is due is all, so that the new lines and notes are those of a full draw.
use Prim.Native.Nat.{ℕ}
use mathlib.Core.Path.{◌≡◌, refl, ap, ◌∙◌}
use mathlib.Core.List.{List}
use Rattle.std.specs.Prelude.{Ok, Err}
use Rattle.std.specs.Result.{result_and}
use Rattle.chip.specs.Refusals.{Outcome, if_accepted, giving}
use Rattle.chip.specs.declared.refusal.Answer.{Answer}
use Rattle.frame.specs.Draw.{drawn_state}
use Rattle.frame.specs.Calls.{draw_refusal}
use Rattle.frame.proofs.Laws.Clean.{clean-while-redraw, refreshed-frame, refreshed-notes}
use Rattle.frame.proofs.calls.full_draw.Goals as goal

-- the count is left out
without_count : (r : Outcome) (n : ℕ) → result_and {U = ℕ} (giving r n) (Ok 0) ≡ giving r 0
without_count (Ok x) n = refl
without_count (Err e) n = refl

pub returns : goal.returns
returns c =
    let a = c.args in
    let drawn = c.draw_due-answer.ensures in
    let refusal : Outcome = draw_refusal a.chip a.vram.now a.map.now a.frame.now a.notes.now in
    let clean = clean-while-redraw a.chip.registers a.vram.now a.map.now a.frame.now a.notes.now in
    let state = ap (λ (y : Answer). y.chip) drawn.value ∙ ap (λ (l : List ℕ). if_accepted refusal (drawn_state a.chip l) a.chip) (refreshed-notes clean) in
    let count = c.and.ensures ∙ ap (λ (y : Answer). result_and {U = ℕ} y.result (Ok 0)) drawn.value ∙ without_count refusal _ in
    record {
      value = λ i. record { chip = state i; result = count i };
      map_after = drawn.map_after;
      frame_after = drawn.frame_after ∙ ap (λ (l : List ℕ). if_accepted refusal l a.frame.now) (refreshed-frame clean);
      notes_after = drawn.notes_after ∙ ap (λ (l : List ℕ). if_accepted refusal l a.notes.now) (refreshed-notes clean);
    }
