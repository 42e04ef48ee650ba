-- What a step does, by what is next.
use Prim.Native.Nat.{ℕ, ◌+◌, ◌-◌, ◌≤◌, ◌<◌}
use native.Mathlib.Omega.{arith}
use mathlib.Core.Path.{◌≡◌, refl, sym, ap, subst⁻¹, ◌∙◌}
use mathlib.Core.Bool.{Bool, true, false, cond, ◌&&◌}
use mathlib.Core.List.{List}
use lib.Dec.{eqb, ltb, leb}
use lib.ListN.{length, replicate}
use borrow.Author.Tests.{le-leb, ltb-true, leb-true}
use Rattle.chip.specs.Lists.{put_at}
use Rattle.chip.specs.State.{masked, well_formed, power_up_state}
use Rattle.chip.specs.declared.state.Chip.{Chip}
use Rattle.std.specs.Prelude.{Ok, Err}
use Rattle.chip.specs.Refusals.{Outcome, giving}
use Rattle.chip.specs.declared.refusal.Answer.{Answer}
use Rattle.chip.specs.declared.refusal.Refusal.{Refusal}
use Rattle.chip.proofs.Laws.Ranges.{and_right}
use Rattle.chip.proofs.Laws.State.{masked-in}
use Rattle.chip.proofs.Laws.Refusals.{differ}
use Rattle.snapshot.specs.Calls.{read_refusal, read_snapshot}
use Rattle.text.specs.Runs.{same}
use Rattle.text.specs.Pieces.{piece_of, writes_nothing}
use Rattle.text.specs.Walk.{first_next, start_walk, refused_step, status_step, line_step_by, line_step, end_step, next_at, drawable, step_at, step_of, left_from, steps_left}
use Rattle.text.specs.declared.walk.Next.{Next}
use Rattle.text.specs.declared.walk.Next.TheVariants.{Refused, Status, Line, End}
use Rattle.text.specs.declared.walk.Walk.{Walk}
use Rattle.text.specs.declared.pieces.Piece.{Piece}
use Rattle.text.proofs.Laws.Put.{put-fits}

-- what is first follows from the tests alone
first-given : (r : Outcome) (v : ℕ) → first_next (giving r v) ≡ first_next r
first-given (Ok x) v = refl
first-given (Err n) v = refl

-- the walk that `start` answers
pub started : (vram file : List ℕ) {a : Answer} {next : Next} → a ≡ read_snapshot power_up_state vram file → next ≡ first_next a.result → record { next = next; chip = a.chip; from = 0; to = 0; colours = replicate 256 0 } ≡ start_walk vram file
started vram file e f =
    let next = f ∙ ap (λ (a : Answer). first_next a.result) e ∙ first-given (read_refusal vram file) 0 in
    λ i. record { next = next i; chip = (e i).chip; from = 0; to = 0; colours = replicate 256 0 }

-- lines can be drawn
pub draws : (c : Chip) (vram : List ℕ) → drawable c vram ≡ true → masked c.registers ≡ true
draws c vram d = masked-in c (and_right (eqb (length vram) 16384) (well_formed c) d)

module _ (vram : List ℕ) (w : Walk) where
  by_next : {n : Next} → w.next ≡ n → step_of vram w ≡ step_at vram n w
  unfolding step_of
  by_next e = ap (λ (m : Next). step_at vram m w) e

  pub step-refused : {r : Refusal} → w.next ≡ Refused r → step_of vram w ≡ refused_step w r
  unfolding step_at
  step-refused e = by_next e

  pub step_end : w.next ≡ End → step_of vram w ≡ end_step w
  unfolding step_at
  step_end e = by_next e

  pub step-status : w.next ≡ Status → drawable w.chip vram ≡ true → step_of vram w ≡ status_step vram w
  unfolding step_at
  step-status e d = by_next e ∙ ap (λ (b : Bool). cond b (status_step vram w) (writes_nothing w)) d

  pub step_line : {l : ℕ} → w.next ≡ Line l → l < 192 → drawable w.chip vram ≡ true → step_of vram w ≡ line_step vram w l
  unfolding step_at
  step_line {l} e h d = by_next e ∙ λ i. cond (le-leb l 191 (omega arith) i && d i) (line_step vram w l) (writes_nothing w)

-- A step that does not write the last piece leaves fewer steps.
next-left : (l : ℕ) → l ≤ 191 → left_from (next_at (l + 1)) < 193 - l
next-left l h = by (ltb (l + 1) 192) refl
  where
    by : (b : Bool) → ltb (l + 1) 192 ≡ b → left_from (cond b (Line (l + 1)) End) < 193 - l
    by true e = omega (arith, ltb-true (l + 1) 192 e)
    by false e = omega arith

module _ (vram : List ℕ) where
  fewer-at : (n : Next) (w : Walk) → (step_at vram n w).last ≡ false → steps_left (step_at vram n w).walk < left_from n
  unfolding step_at line_step
  fewer-at (Refused n) w more = absurd (differ more)
  fewer-at End w more = absurd (differ more)
  fewer-at Status w more = by (drawable w.chip vram) more
    where
      by : (b : Bool) → (cond b (status_step vram w) (writes_nothing w)).last ≡ false → steps_left (cond b (status_step vram w) (writes_nothing w)).walk < 193
      by true m = omega arith
      by false m = absurd (differ m)
  fewer-at (Line l) w more = by (leb l 191) (drawable w.chip vram) refl more
    where
      going_on : (b : Bool) (line : List ℕ) → l ≤ 191 → steps_left (line_step_by b w l line).walk < 193 - l
      going_on true line h = next-left l h
      going_on false line h = next-left l h

      by : (a b : Bool) → leb l 191 ≡ a → (cond (a && b) (line_step vram w l) (writes_nothing w)).last ≡ false → steps_left (cond (a && b) (line_step vram w l) (writes_nothing w)).walk < 193 - l
      by true true e m = going_on (same w.colours _) _ (leb-true l 191 e)
      by true false e m = absurd (differ m)
      by false b e m = absurd (differ m)

  pub fewer-left : (w : Walk) → (step_of vram w).last ≡ false → steps_left (step_of vram w).walk < steps_left w
  unfolding step_of
  fewer-left w more = fewer-at w.next w more

-- what a caller knows by the answer of `step`
module _ (vram : List ℕ) (w : Walk) {p : Piece Walk} (e : p ≡ piece_of (step_of vram w)) where
  pub falls : p.last ≡ false → steps_left p.walk < steps_left w
  falls more = subst⁻¹ (λ (q : Piece Walk). steps_left q.walk < steps_left w) e (fewer-left vram w (sym (ap (λ (q : Piece Walk). q.last) e) ∙ more))

  pub fits : (out : List ℕ) {out' : List ℕ} → out' ≡ put_at 0 (step_of vram w).bytes out → p.written ≤ length out'
  fits out {out'} left = subst⁻¹ (λ (q : Piece Walk). q.written ≤ length out') e (put-fits (step_of vram w).bytes out left)
