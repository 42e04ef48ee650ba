-- What a step does, by what is next.
use Prim.Native.Nat.{ℕ, ◌+◌, ◌≤◌}
use mathlib.Core.Path.{◌≡◌, refl, ap, ◌∙◌}
use mathlib.Core.Bool.{Bool, true, false, cond, not}
use mathlib.Core.List.{List}
use lib.Dec.{eqb}
use lib.ListN.{length, replicate, length-replicate}
use borrow.Author.Tests.{eq-eqb, le-leb, leb-true}
use Rattle.chip.specs.State.{well_formed}
use Rattle.std.specs.Prelude.{Ok, Err, is_err}
use Rattle.chip.specs.Refusals.{Outcome, is_accepted, giving}
use Rattle.chip.specs.declared.refusal.Answer.{Answer}
use Rattle.chip.proofs.Laws.Refusals.{all_pass, all-accepted}
use Rattle.chip.proofs.Laws.Lists.{length-tabulate}
use Rattle.scanline.specs.Calls.{colours}
use Rattle.scanline.specs.Colours.{draw_colours_tests, draw_colours_refusal, draw_colours, draw_colours_line}
use Rattle.text.specs.Pieces.{Step, writes_nothing}
use Rattle.ppm.specs.declared.walk.Next.{Next}
use Rattle.ppm.specs.declared.walk.Next.TheVariants.{Line}
use Rattle.ppm.specs.declared.walk.Walk.{Walk}
use Rattle.ppm.specs.Picture.{painted}
use Rattle.ppm.proofs.Laws.Paint.{length-painted}
use Rattle.ppm.specs.Walk.{going, line_step, step_at, step_of}

pub step_by : (vram : List ℕ) (w : Walk) {n : Next} → w.next ≡ n → step_of vram w ≡ step_at vram n w
unfolding step_of
step_by vram w e = ap (λ (m : Next). step_at vram m w) e

-- the slice that a line is drawn into
abbrev pub blank : List ℕ
blank = replicate 256 0

-- the step that writes line l
abbrev pub writes_line : List ℕ → Walk → ℕ → Step Walk
writes_line vram w l = record { bytes = painted (colours w.chip.registers vram l); walk = going w (Line (l + 1)); last = eqb l 191 }

module _ (vram : List ℕ) (w : Walk) (l : ℕ) where
  -- a line that is drawn is one of the 192
  pub line-below : is_accepted (draw_colours_refusal w.chip vram blank l) ≡ true → l ≤ 191
  line-below e = leb-true l 191 (all_pass (draw_colours_tests w.chip vram blank l) e).1.1.1.1.0

  -- each of them is drawn, in a well-formed state and with VRAM of the right length
  pub line-accepted : length vram ≡ 16384 → well_formed w.chip ≡ true → l ≤ 191 → line_step vram w l ≡ writes_line vram w l
  line-accepted full ok h =
      ap (λ (r : Outcome). cond (is_accepted r) (writes_line vram w l) (writes_nothing w))
      (all-accepted (draw_colours_tests w.chip vram blank l) (eq-eqb _ _ full, (ok, (room, (room, (le-leb l 191 h, tt))))))
    where
      room : eqb (length blank) 256 ≡ true
      room = eq-eqb _ _ (length-replicate {A = ℕ} 256 0)

  -- by what the draw answers
  module _ {a : Answer} {failed : Bool} (drawn : a ≡ draw_colours w.chip vram blank l) (test : failed ≡ is_err a.result) where
    answered-so : is_accepted (draw_colours_refusal w.chip vram blank l) ≡ not failed
    answered-so = by (draw_colours_refusal w.chip vram blank l) 0 (test ∙ ap (λ (b : Answer). is_err b.result) drawn)
      where
        by : (r : Outcome) (v : ℕ) → failed ≡ is_err (giving r v) → is_accepted r ≡ not failed
        by (Ok x) v e = rw e refl
        by (Err n) v e = rw e refl

    module _ (fine : failed ≡ false) where
      drawn-so : is_accepted (draw_colours_refusal w.chip vram blank l) ≡ true
      drawn-so = answered-so ∙ ap not fine

      pub is-drawn : line_step vram w l ≡ writes_line vram w l
      is-drawn = ap (λ (b : Bool). cond b (writes_line vram w l) (writes_nothing w)) drawn-so

      pub drawn-line : {line : List ℕ} → line ≡ draw_colours_line w.chip vram blank l → line ≡ colours w.chip.registers vram l
      drawn-line e = e ∙ ap (λ (b : Bool). cond b (colours w.chip.registers vram l) blank) drawn-so

-- the line that is drawn, and how long its pixels are
pub ruleset lines = (is-drawn, drawn-line, length-painted, length-tabulate)
