-- The text shows what a full draw draws.
--
-- Take any well-formed state, any 16,384 bytes of VRAM, and slices for map, frame and notes of the right lengths, whatever
-- they hold. The status after, in the text, is that of the state which a full draw hands back, and the lines, which
-- it joins into ranges, are those of the frame which the full draw leaves.
use Prim.Native.Nat.{ℕ, zero, suc, ◌+◌, ◌≤◌, ◌<◌}
use native.Mathlib.Omega.{arith}
use mathlib.Core.Path.{◌≡◌, refl, sym, ap, ap₂, ◌∙◌}
use mathlib.Core.Bool.{true}
use mathlib.Core.List.{List, ◌∷◌, ◌++◌}
use lib.ListN.{length, replicate, length-replicate}
use Rattle.chip.specs.State.{well_formed}
use Rattle.chip.specs.declared.state.Chip.{Chip}
use Rattle.std.specs.Prelude.{Ok}
use Rattle.chip.proofs.Laws.Lists.{length-tabulate}
use Rattle.chip.proofs.Laws.Refusals.{the-new, value-given}
use Rattle.scanline.specs.Calls.{colours}
use Rattle.frame.specs.Lines.{line_at}
use Rattle.frame.specs.Draw.{frame_of, notes_of, drawn_state}
use Rattle.frame.specs.Calls.{draw_refusal, full_draw, full_draw_frame}
use Rattle.frame.proofs.Laws.Lines.{line-of-end}
use Rattle.frame.proofs.FullDraw.{full-draw-is-line-draws}
use Rattle.text.specs.Runs.{runs, same}
use Rattle.text.specs.Lines.{status_text, ranges_text}
use Rattle.text.specs.Show.{lines_from, show_text}

-- lines that are the same up to line 191
lines_same : (f g : ℕ → List ℕ) → ((l : ℕ) → l < 192 → f l ≡ g l) → (l n : ℕ) → l + n ≤ 192 → lines_from f l n ≡ lines_from g l n
unfolding lines_from
lines_same f g e l zero h = refl
lines_same f g e l (suc n) h = ap₂ (λ (x : List ℕ) (m : List (List ℕ)). x ∷ m) (e l (omega arith)) (lines_same f g e (l + 1) n (omega arith))

pub shows-full-draw : (c : Chip) → well_formed c ≡ true
    → (vram : List ℕ) → length vram ≡ 16384
    → (map frame notes : List ℕ) → length map ≡ 2048 → length frame ≡ 49152 → length notes ≡ 192
    → show_text c vram
    ≡ status_text c.status (full_draw c vram map frame notes).chip.status
    ++ ranges_text 0 (runs same (lines_from (line_at (full_draw_frame c vram map frame notes)) 0 192))
unfolding show_text
shows-full-draw c ok vram full map frame notes m f n =
    let zeros : length (replicate {A = ℕ} 256 0) ≡ 256 = length-replicate {A = ℕ} 256 0 in
    let agree = full-draw-is-line-draws c ok vram full map frame notes m f n (record { line = λ l. replicate 256 0; codes = λ l. replicate 256 0 }) (λ l. (zeros, zeros)) in
    let accepted : draw_refusal c vram map frame notes ≡ Ok tt = value-given _ 0 agree.0 in
    let drawn : (l : ℕ) → l < 192 → colours c.registers vram l ≡ line_at (full_draw_frame c vram map frame notes) l =
    λ l h. sym (ap (λ (t : List ℕ). line_at t l) (the-new accepted (frame_of c.registers vram) frame) ∙ line-of-end (colours c.registers vram) 192 (λ k _. length-tabulate 256 _) l h) in
    ap₂ ◌++◌
    (ap (λ (d : Chip). status_text c.status d.status) (sym (the-new accepted (drawn_state c (notes_of c.registers vram)) c)))
    (ap (λ (lines : List (List ℕ)). ranges_text 0 (runs same lines)) (lines_same (colours c.registers vram) (line_at (full_draw_frame c vram map frame notes)) drawn 0 192 (omega arith)))
