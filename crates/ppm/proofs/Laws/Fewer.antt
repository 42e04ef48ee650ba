-- A step that does not write the last piece leaves fewer steps.
use Prim.Native.Nat.{ℕ, ◌-◌, ◌≤◌, ◌<◌}
use native.Mathlib.Omega.{arith}
use mathlib.Core.Path.{◌≡◌, refl, sym, ap, subst⁻¹, ◌∙◌}
use mathlib.Core.Bool.{Bool, true, false, cond}
use mathlib.Core.List.{List}
use lib.ListN.{length, replicate}
use borrow.Author.Tests.{eqb-false}
use Rattle.chip.specs.Lists.{put_at}
use Rattle.chip.specs.Refusals.{is_accepted}
use Rattle.chip.proofs.Laws.Refusals.{differ}
use Rattle.scanline.specs.Colours.{draw_colours_refusal}
use Rattle.text.specs.Pieces.{piece_of, writes_nothing}
use Rattle.text.specs.declared.pieces.Piece.{Piece}
use Rattle.text.proofs.Laws.Put.{put-fits}
use Rattle.ppm.specs.declared.walk.Next.{Next}
use Rattle.ppm.specs.declared.walk.Next.TheVariants.{Refused, Header, Line}
use Rattle.ppm.specs.declared.walk.Walk.{Walk}
use Rattle.ppm.specs.Walk.{step_at, step_of, left_from, steps_left}
use Rattle.ppm.proofs.Laws.Steps.{writes_line, line-below}

fewer-at : (vram : List ℕ) (n : Next) (w : Walk) → (step_at vram n w).last ≡ false → steps_left (step_at vram n w).walk < left_from n
fewer-at vram (Refused n) w h = absurd (differ h)
fewer-at vram Header w h = omega arith
fewer-at vram (Line l) w h = by (is_accepted (draw_colours_refusal w.chip vram (replicate 256 0) l)) refl h
  where
    by : (b : Bool) → is_accepted (draw_colours_refusal w.chip vram (replicate 256 0) l) ≡ b → (cond b (writes_line vram w l) (writes_nothing w)).last ≡ false → steps_left (cond b (writes_line vram w l) (writes_nothing w)).walk < 192 - l
    by true e more = omega (arith, line-below vram w l e, eqb-false l 191 more)
    by false e more = absurd (differ more)

pub fewer-left : (vram : List ℕ) (w : Walk) → (step_of vram w).last ≡ false → steps_left (step_of vram w).walk < steps_left w
unfolding step_of
fewer-left vram w h = fewer-at vram w.next w h

-- what a caller knows by the answer of `step`
module _ (vram : List ℕ) (w : Walk) {p : Piece Walk} (e : p ≡ piece_of (step_of vram w)) where
  pub falls : p.last ≡ false → steps_left p.walk < steps_left w
  falls more = subst⁻¹ (λ (q : Piece Walk). steps_left q.walk < steps_left w) e (fewer-left vram w (sym (ap (λ (q : Piece Walk). q.last) e) ∙ more))

  pub fits : (out : List ℕ) {out' : List ℕ} → out' ≡ put_at 0 (step_of vram w).bytes out → p.written ≤ length out'
  fits out {out'} left = subst⁻¹ (λ (q : Piece Walk). q.written ≤ length out') e (put-fits (step_of vram w).bytes out left)
