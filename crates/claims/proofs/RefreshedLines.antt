-- What an accepted refresh does to each line, on any bench.
use Prim.Native.Nat.{ℕ, ◌<◌}
use native.Mathlib.Omega.{arith}
use mathlib.Core.Path.{◌≡◌, ap, ◌∙◌}
use mathlib.Core.Bool.{Bool, true, false, cond}
use mathlib.Core.List.{List}
use lib.ListN.{length, get_or}
use borrow.Author.Tests.{eqb-true}
use Rattle.chip.specs.State.{Fits}
use Rattle.chip.proofs.Laws.Lists.{length-tabulate, get_d_tabulate}
use Rattle.chip.proofs.Laws.Refusals.{all-accepted}
use Rattle.fetches.specs.Fetch.{value}
use Rattle.scanline.specs.Line.{line_of, colour_at}
use Rattle.scanline.specs.Calls.{note_at, colours}
use Rattle.frame.specs.Lines.{line_at}
use Rattle.frame.specs.Due.{due, new_line, new_note, new_frame, new_notes}
use Rattle.frame.proofs.Laws.Lines.{length-line, either-long, line-of-end}
use Rattle.claims.specs.Bench.{Bench}
use Rattle.claims.specs.Call.{refresh, Call}
use Rattle.claims.specs.Description.{tests}
use Rattle.claims.specs.Descriptions.{described}
use Rattle.claims.specs.Step.{Step, step}
use Rattle.claims.specs.After.{RefreshesDueLines}
use Rattle.claims.proofs.Laws.Invariant.{refreshed}
use Rattle.claims.proofs.Laws.Draws.{due-drawn, due-counted}
use Rattle.claims.proofs.Laws.Steps.{accepted-step}

-- Line l of the frame and of the notes after a refresh, by whether it is due.
module _ (b : Bench) (long : length b.frame ≡ 49152) (l : ℕ) (below : l < 192) where
  abbrev m : Bool
  m = b.chip.redraw

  abbrev r : List ℕ
  r = b.chip.registers

  new_line_lem : line_at (new_frame m r b.vram b.map b.frame) l ≡ new_line m r b.vram b.map b.frame l
  new_line_lem =
      line-of-end (new_line m r b.vram b.map b.frame) 192
      (λ k under. either-long (due m r b.vram b.map k) _ _ (length-tabulate 256 (colour_at r (value (line_of r k) b.vram))) (length-line b.frame k (omega arith)))
      l below

  new-note : get_or (new_notes m r b.vram b.map b.notes) l 0 ≡ new_note m r b.vram b.map b.notes l
  new-note = get_d_tabulate 192 (new_note m r b.vram b.map b.notes) l below

  by-due : {after : Bench} → after ≡ refreshed b → (x : Bool) → due m r b.vram b.map l ≡ x
      → (line_at after.frame l ≡ cond x (colours r b.vram l) (line_at b.frame l)) × (get_or after.notes l 0 ≡ cond x (note_at r b.vram l) (get_or b.notes l 0))
  by-due same x e = (
    ap (λ (k : Bench). line_at k.frame l) same ∙ new_line_lem ∙ (λ i. cond (e i) (colours r b.vram l) (line_at b.frame l)),
    ap (λ (k : Bench). get_or k.notes l 0) same ∙ new-note ∙ (λ i. cond (e i) (note_at r b.vram l) (get_or b.notes l 0)),
  )

-- Take any bench whose state fits its types, and a refresh of it that is accepted, called directly or from C. It answers the
-- number of due lines. Each line that is not due keeps its 256 bytes and its note, whatever they were; each due line gets those
-- of a full draw.
pub refresh-due-lines : (b : Bench) → Fits b.chip → (call : Call) → call.op ≡ refresh → (step b call).reply.refusal ≡ 0 → RefreshesDueLines b (step b call)
refresh-due-lines b fits call is accepted =
    let out = accepted-step b fits call is tt accepted in
    let ok = all-accepted (tests (described refresh) b) out.0 in
    let same : (step b call).bench ≡ refreshed b = ap (λ (s : Step). s.bench) out.1 ∙ due-drawn b ok in
    let long : length b.frame ≡ 49152 = eqb-true _ _ out.0.1.1.0 in
    record {
      count = ap (λ (s : Step). s.reply.values) out.1 ∙ due-counted b ok;
      kept = λ l below e. by-due b long l below same false e;
      redrawn = λ l below e. by-due b long l below same true e;
    }
