-- The steps over the lines of a picture write its ranges.
use Prim.Native.Nat.{ℕ, zero, suc, ◌+◌, ◌-◌}
use native.Mathlib.Omega.{arith}
use mathlib.Core.Path.{◌≡◌, refl, sym, ap, ◌∙◌}
use mathlib.Core.Bool.{Bool, true, false, cond}
use mathlib.Core.List.{List, ◌∷◌, append-nil}
use lib.ListN.{length}
use borrow.Author.Tests.{eq-eqb, lt-ltb, le-ltb}
use Rattle.chip.specs.State.{well_formed}
use Rattle.chip.specs.declared.state.Chip.{Chip}
use Rattle.scanline.specs.Calls.{colours}
use Rattle.text.specs.Runs.{runs_after, same}
use Rattle.text.specs.Lines.{range_text, ranges_text}
use Rattle.text.specs.Show.{lines_from}
use Rattle.text.specs.Pieces.{steps_from}
use Rattle.text.specs.Walk.{drawable, next_at, line_step_by, line_step, step_of}
use Rattle.text.specs.declared.walk.Next.{Next}
use Rattle.text.specs.declared.walk.Next.TheVariants.{Line, End}
use Rattle.text.specs.declared.walk.Walk.{Walk}
use Rattle.text.proofs.Laws.Pieces.{wholly, last_step, more-steps}
use Rattle.text.proofs.Laws.Steps.{step_line, step_end}

-- A walk with a state.
abbrev pub walk_at : Chip → Next → ℕ → ℕ → List ℕ → Walk
walk_at c next from to each = record { next = next; chip = c; from = from; to = to; colours = each }

module _ (vram : List ℕ) (full : length vram ≡ 16384) (c : Chip) (ok : well_formed c ≡ true) where
  abbrev f : ℕ → List ℕ
  f = colours c.registers vram

  pub can-draw : drawable c vram ≡ true
  can-draw = rw (eq-eqb (length vram) 16384 full) ok

  -- line l is next, n lines are left, and the range so far has k lines, `from` to `to`
  pub ranges-written : (n l from to k : ℕ) (each : List ℕ) → l + n ≡ 192 → from + k ≡ l → to + 1 ≡ l → steps_from (step_of vram) (suc n) (walk_at c (next_at l) from to each) ≡ wholly (ranges_text from (runs_after same k each (lines_from f l n)))
  unfolding lines_from ranges_text runs_after line_step
  ranges-written zero l from to k each e ek el =
      let w : Walk = walk_at c (next_at l) from to each in
      let over : next_at l ≡ End = ap (λ (b : Bool). cond b (Line l) End) (le-ltb l 192 (omega arith)) in
      let upto : to ≡ from + k - 1 = omega arith in
      last_step (step_of vram) 0 w (step_end vram w over) refl
      ∙ ap wholly (ap (λ (b : ℕ). range_text from b each) upto ∙ sym (append-nil (range_text from (from + k - 1) each)))
  ranges-written (suc n) l from to k each e ek el =
      by (same each (f l)) refl
      (ranges-written n (l + 1) from l (k + 1) each (omega arith) (omega arith) refl)
      (ranges-written n (l + 1) l l 1 (f l) (omega arith) refl refl)
    where
      line : next_at l ≡ Line l
      line = ap (λ (b : Bool). cond b (Line l) End) (lt-ltb l 192 (omega arith))

      is : (b : Bool) → same each (f l) ≡ b → step_of vram (walk_at c (next_at l) from to each) ≡ line_step_by b (walk_at c (next_at l) from to each) l (f l)
      is b t =
          step_line vram (walk_at c (next_at l) from to each) line (omega arith) can-draw
          ∙ ap (λ (d : Bool). line_step_by d (walk_at c (next_at l) from to each) l (f l)) t

      by : (b : Bool) → same each (f l) ≡ b
          → steps_from (step_of vram) (suc n) (walk_at c (next_at (l + 1)) from l each) ≡ wholly (ranges_text from (runs_after same (k + 1) each (lines_from f (l + 1) n)))
          → steps_from (step_of vram) (suc n) (walk_at c (next_at (l + 1)) l l (f l)) ≡ wholly (ranges_text l (runs_after same 1 (f l) (lines_from f (l + 1) n)))
          → steps_from (step_of vram) (suc (suc n)) (walk_at c (next_at l) from to each) ≡ wholly (ranges_text from (runs_after same k each (f l ∷ lines_from f (l + 1) n)))
      by true t on over =
          more-steps (step_of vram) (suc n) (walk_at c (next_at l) from to each) (is true t) refl on
          ∙ rw t refl
      by false t on over =
          let upto : from + k - 1 ≡ to = omega arith in
          more-steps (step_of vram) (suc n) (walk_at c (next_at l) from to each) (is false t) refl over
          ∙ rw (t, upto, ek) refl
