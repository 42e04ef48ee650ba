-- One line of lines end to end. The other laws of such lines stand with the definitions, and are passed on.
use Prim.Native.Nat.{ℕ, zero, suc, ◌+◌, ◌*◌, ◌≤◌, ◌<◌}
use native.Mathlib.Nat.{le_step, lt-suc_self, not-suc-le-zero}
use native.Mathlib.Omega.{arith}
use mathlib.Core.Path.{◌≡◌, refl, sym, ap, ◌∙◌}
use mathlib.Core.Bool.{Bool}
use mathlib.Core.List.{List, [], ◌++◌, append-nil}
use lib.Dec.{eqb}
use borrow.Author.Tests.{eqb-true, eqb-false}
use lib.ListN.{length, take, drop, length-drop}
use lib.Seq.{take_at, drop_at, take-append-le, drop-append-le}
use Rattle.frame.specs.Lines.{lines_end_to_end, line_at}
pub use Rattle.redraw.proofs.Laws.Lines.{length-end, end_same, length-line, either-long, bit-small, count-le}

-- Line l of lines end to end.
pub line-of-end : (f : ℕ → List ℕ) (n : ℕ) → ((k : ℕ) → k < n → length (f k) ≡ 256) → (l : ℕ) → l < n → line_at (lines_end_to_end n f) l ≡ f l
unfolding lines_end_to_end
line-of-end f zero wide l h = absurd (not-suc-le-zero h)
line-of-end f (suc n) wide l h = by (eqb l n) refl (λ below. line-of-end f n (λ k under. wide k (le_step under)) l below)
  where
    front : length (lines_end_to_end n f) ≡ 256 * n
    front = length-end f n (λ k below. wide k (le_step below))

    by : (b : Bool) → eqb l n ≡ b → (l < n → line_at (lines_end_to_end n f) l ≡ f l) → line_at (lines_end_to_end n f ++ f n) l ≡ f l
    by mathlib.Core.Bool.Bool.true e again =
        let same : l ≡ n = eqb-true l n e in
        let start : 256 * n ≡ 256 * l = ap (λ (k : ℕ). 256 * k) (sym same) in
        ap (take 256) (drop_at (lines_end_to_end n f) (f n) (256 * l) (front ∙ start))
        ∙ ap (take 256) (sym (append-nil (f n)))
        ∙ take_at (f n) [] 256 (wide n (lt-suc_self n))
        ∙ ap f (sym same)
    by mathlib.Core.Bool.Bool.false e again =
        let apart : l ≡ n → ⊥ = eqb-false l n e in
        let below : l < n = omega arith in
        let room : 256 * l + 256 ≤ length (lines_end_to_end n f) = omega (arith, front) in
        ap (take 256) (drop-append-le (256 * l) (lines_end_to_end n f) (f n) (omega arith))
        ∙ take-append-le 256 (drop (256 * l) (lines_end_to_end n f)) (f n) (rw length-drop (omega arith))
        ∙ again below
