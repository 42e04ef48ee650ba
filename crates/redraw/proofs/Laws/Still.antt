-- Where no line is due all stays as it is.
use Prim.Native.Nat.{ℕ, zero, suc, ◌+◌, ◌*◌, ◌<◌}
use native.Mathlib.Nat.{mul-suc, le_step, lt-suc_self}
use native.Mathlib.Omega.{arith}
use mathlib.Core.Path.{◌≡◌, refl, sym, ap, ap₂, ◌∙◌}
use mathlib.Core.Bool.{Bool, false, cond}
use mathlib.Core.List.{List, ◌++◌}
use lib.ListN.{length, get_or, take}
use lib.Seq.{take-add, take_all}
use mir.Val.{bool_byte}
use Rattle.chip.specs.Bits.{bit}
use Rattle.chip.specs.Lists.{tabulate}
use Rattle.chip.proofs.Laws.Bits.{bit-zero}
use Rattle.chip.proofs.Laws.Lists.{tabulated}
use Rattle.scanline.specs.Calls.{note_at, colours}
use Rattle.redraw.specs.Lines.{lines_end_to_end, line_at, count_below}
use Rattle.redraw.specs.Row.{row_lines, row_notes, row_count}
use Rattle.redraw.proofs.Laws.Lines.{end_same}

-- a frame's lines, end to end
pub front-lines : (frame : List ℕ) (n : ℕ) → lines_end_to_end n (line_at frame) ≡ take (256 * n) frame
unfolding lines_end_to_end
front-lines frame zero = refl
front-lines frame (suc n) = ap (λ (t : List ℕ). t ++ line_at frame n) (front-lines frame n) ∙ sym (take-add (256 * n) 256 frame) ∙ ap (λ (m : ℕ). take m frame) (sym (mul-suc 256 n))

-- n lines, of which the test holds for none
module _ (is : ℕ → Bool) (n : ℕ) (none : (l : ℕ) → l < n → is l ≡ false) where
  pub frame-stays : (new : ℕ → List ℕ) (frame : List ℕ) → length frame ≡ 256 * n → frame ≡ lines_end_to_end n (λ l. cond (is l) (new l) (line_at frame l))
  frame-stays new frame e =
      sym (end_same n (λ l. cond (is l) (new l) (line_at frame l)) (line_at frame) (λ l h. ap (λ (b : Bool). cond b (new l) (line_at frame l)) (none l h)) ∙ front-lines frame n ∙ take_all (256 * n) frame (omega arith))

  pub notes-stay : (new : ℕ → ℕ) (notes : List ℕ) → length notes ≡ n → notes ≡ tabulate n (λ l. cond (is l) (new l) (get_or notes l 0))
  notes-stay new notes e = tabulated e (λ l h. sym (ap (λ (b : Bool). cond b (new l) (get_or notes l 0)) (none l h)))

-- the same count
pub count_same : (n : ℕ) (p q : ℕ → Bool) → ((k : ℕ) → k < n → p k ≡ q k) → count_below n p ≡ count_below n q
unfolding count_below
count_same zero p q h = refl
count_same (suc n) p q h = ap₂ (λ (a : ℕ) (b : Bool). a + bool_byte b) (count_same n p q (λ k below. h k (le_step below))) (h n (lt-suc_self n))

count_none : (n : ℕ) → count_below n (λ k. false) ≡ 0
unfolding count_below
count_none zero = refl
count_none (suc n) = ap (λ (a : ℕ). a + 0) (count_none n)

pub no-count : (is : ℕ → Bool) (n : ℕ) → ((l : ℕ) → l < n → is l ≡ false) → 0 ≡ count_below n is
no-count is n none = sym (count_same n is (λ k. false) none ∙ count_none n)

-- no line of a row is due
none_due : {due : ℕ} → due ≡ 0 → (k : ℕ) → k < 8 → bit k due ≡ false
none_due e k h = ap (bit k) e ∙ bit-zero k

module _ {due : ℕ} (e : due ≡ 0) where
  pub still-count : 0 ≡ row_count due
  still-count = no-count (λ k. bit k due) 8 (none_due e)

  pub still-lines : (r vram : List ℕ) (row : ℕ) (part : List ℕ) → length part ≡ 2048 → part ≡ row_lines r vram row due part
  still-lines r vram row part long = frame-stays (λ k. bit k due) 8 (none_due e) (λ k. colours r vram (8 * row + k)) part long

  pub still-notes : (r vram : List ℕ) (row : ℕ) (notes : List ℕ) → length notes ≡ 8 → notes ≡ row_notes r vram row due notes
  still-notes r vram row notes long = notes-stay (λ k. bit k due) 8 (none_due e) (λ k. note_at r vram (8 * row + k)) notes long

pub ruleset still = (still-count, still-lines, still-notes)
