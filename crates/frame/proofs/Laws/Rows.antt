-- Lines by rows of eight: over any new line, new note and due test.
use Prim.Native.Nat.{ℕ, zero, suc, ◌+◌, ◌*◌, ◌-◌, ◌≤◌, ◌<◌}
use native.Mathlib.Nat.{add-zero, add-suc, add_assoc}
use native.Mathlib.Decide.{dec_lt}
use native.Mathlib.Omega.{arith}
use mathlib.Core.Path.{◌≡◌, sym, ap, ap₂, ◌∙◌}
use mathlib.Core.Bool.{Bool}
use mathlib.Core.List.{List, ◌++◌, append_assoc, append-nil}
use lib.ListN.{length, get_or, take, drop, length-drop}
use lib.Seq.{take_at, drop_at, drop-drop, take-take, take-add, length-take-le}
use mir.Val.{bool_byte}
use Rattle.chip.specs.Lists.{tabulate}
use Rattle.chip.proofs.Laws.Lists.{get_d_tabulate, length-tabulate}
use Rattle.chip.proofs.Laws.Stored.{stored-long, stored-left, stored-inside, stored-right}
use Rattle.redraw.proofs.Laws.Redraw.{Redrawn}
use Rattle.frame.specs.Lines.{lines_end_to_end, line_at, count_below}
use Rattle.frame.proofs.Laws.Lines.{length-end}

-- n lines behind the first a
pub end-add : (f : ℕ → List ℕ) (a n : ℕ) → lines_end_to_end (a + n) f ≡ lines_end_to_end a f ++ lines_end_to_end n (λ k. f (a + k))
unfolding lines_end_to_end
end-add f a zero = ap (λ (i : ℕ). lines_end_to_end i f) (add-zero a) ∙ sym (append-nil (lines_end_to_end a f))
end-add f a (suc n) =
    ap (λ (i : ℕ). lines_end_to_end i f) (add-suc a n)
    ∙ ap (λ (t : List ℕ). t ++ f (a + n)) (end-add f a n)
    ∙ append_assoc (lines_end_to_end a f) (lines_end_to_end n (λ k. f (a + k))) (f (a + n))

pub count_add : (p : ℕ → Bool) (a n : ℕ) → count_below (a + n) p ≡ count_below a p + count_below n (λ k. p (a + k))
unfolding count_below
count_add p a zero = ap (λ (i : ℕ). count_below i p) (add-zero a) ∙ sym (add-zero (count_below a p))
count_add p a (suc n) =
    ap (λ (i : ℕ). count_below i p) (add-suc a n)
    ∙ ap (λ (t : ℕ). t + bool_byte (p (a + n))) (count_add p a n)
    ∙ add_assoc (count_below a p) (count_below n (λ k. p (a + k))) (bool_byte (p (a + n)))

-- drop within a part
drop-take : (a b : ℕ) (l : List ℕ) → a + b ≤ length l → drop a (take (a + b) l) ≡ take b (drop a l)
drop-take a b l h = ap (drop a) (take-add a b l) ∙ drop_at (take a l) (take b (drop a l)) a (length-take-le a l (omega arith))

-- line k of a row is that of the frame
pub line-of-row : (frame : List ℕ) (row k w : ℕ) → w ≡ 2048 → 2048 * row + 2048 ≤ length frame → k < 8 → line_at (take w (drop (2048 * row) frame)) k ≡ line_at frame (8 * row + k)
line-of-row frame row k w ew room h =
    let rest : List ℕ = drop (2048 * row) frame in
    let width : w ≡ 256 * k + (2048 - 256 * k) = ew ∙ omega arith in
    let long : 256 * k + (2048 - 256 * k) ≤ length rest = rw length-drop (omega arith) in
    let place : 2048 * row + 256 * k ≡ 256 * (8 * row + k) = omega arith in
    ap (λ (v : ℕ). take 256 (drop (256 * k) (take v rest))) width
    ∙ ap (take 256) (drop-take (256 * k) (2048 - 256 * k) rest long)
    ∙ take-take 256 (2048 - 256 * k) (drop (256 * k) rest) (omega arith)
    ∙ ap (take 256) (drop-drop (256 * k) (2048 * row) frame ∙ ap (λ (v : ℕ). drop v frame) place)

-- One row more: its eight lines and notes are stored as parts, of widths w and v, and its due lines are counted.
module _ (line : ℕ → List ℕ) (note : ℕ → ℕ) (is : ℕ → Bool) (wide : (k : ℕ) → k < 192 → length (line k) ≡ 256) {frame₀ notes₀ frame notes : List ℕ} {count row : ℕ} (h : row < 24) (e : length frame₀ ≡ 49152) (g : Redrawn 192 line note is frame₀ notes₀ frame notes count (8 * row)) where
  before : length (lines_end_to_end (8 * row) line) ≡ 2048 * row
  before =
      let places : 256 * (8 * row) ≡ 2048 * row = omega arith in
      length-end line (8 * row) (λ k below. wide k (omega arith)) ∙ places

  so : frame ≡ lines_end_to_end (8 * row) line ++ drop (2048 * row) frame₀
  so =
      let places : 256 * (8 * row) ≡ 2048 * row = omega arith in
      g.lines ∙ ap (λ (v : ℕ). lines_end_to_end (8 * row) line ++ drop v frame₀) places

  pub rest-as-lent : drop (2048 * row) frame ≡ drop (2048 * row) frame₀
  rest-as-lent = ap (drop (2048 * row)) so ∙ drop_at (lines_end_to_end (8 * row) line) (drop (2048 * row) frame₀) (2048 * row) before

  pub redrawn-row : {part row-notes : List ℕ} {n w v : ℕ} → w ≡ 2048 → v ≡ 8
      → part ≡ lines_end_to_end 8 (λ k. line (8 * row + k))
      → row-notes ≡ tabulate 8 (λ k. note (8 * row + k))
      → n ≡ count_below 8 (λ k. is (8 * row + k))
      → Redrawn 192 line note is frame₀ notes₀ (take (2048 * row) frame ++ (part ++ drop w (drop (2048 * row) frame))) (take (8 * row) notes ++ (row-notes ++ drop v (drop (8 * row) notes))) (count + n) (8 * (row + 1))
  redrawn-row {part} {row-notes} {n} {w} {v} ew ev ep en ec =
      let next : 8 * row + 8 ≡ 8 * (row + 1) = omega arith in
      let eight : length row-notes ≡ 8 = ap length en ∙ length-tabulate 8 (λ k. note (8 * row + k)) in
      let room : 8 * row + 8 ≤ length notes = omega (arith, g.long) in
      record {
        lines =
            let head : take (2048 * row) frame ≡ lines_end_to_end (8 * row) line = ap (take (2048 * row)) so ∙ take_at (lines_end_to_end (8 * row) line) (drop (2048 * row) frame₀) (2048 * row) before in
            let place : 2048 * row + w ≡ 256 * (8 * (row + 1)) = omega arith in
            let tail : drop w (drop (2048 * row) frame) ≡ drop (256 * (8 * (row + 1))) frame₀ = ap (drop w) rest-as-lent ∙ drop-drop w (2048 * row) frame₀ ∙ ap (λ (i : ℕ). drop i frame₀) place in
            ap₂ ◌++◌ head (ap₂ ◌++◌ ep tail)
            ∙ sym (append_assoc (lines_end_to_end (8 * row) line) (lines_end_to_end 8 (λ k. line (8 * row + k))) (drop (256 * (8 * (row + 1))) frame₀))
            ∙ ap (λ (t : List ℕ). t ++ drop (256 * (8 * (row + 1))) frame₀) (sym (end-add line (8 * row) 8) ∙ ap (λ (i : ℕ). lines_end_to_end i line) next);
        long = stored-long notes row-notes (8 * row) 8 v eight room ev ∙ g.long;
        done = record { front = λ k below. by k below (dec_lt k (8 * row)) };
        rest = λ k above. stored-right notes row-notes (8 * row) 8 v eight room ev k (omega arith) ∙ g.rest k (omega arith);
        counted = ap₂ ◌+◌ g.counted ec ∙ sym (count_add is (8 * row) 8) ∙ ap (λ (i : ℕ). count_below i is) next;
      }
    where
      by : (k : ℕ) → k < 8 * (row + 1) → Dec (k < 8 * row) → get_or (take (8 * row) notes ++ (row-notes ++ drop v (drop (8 * row) notes))) k 0 ≡ note k
      by k below (yes old) =
          let eight : length row-notes ≡ 8 = ap length en ∙ length-tabulate 8 (λ i. note (8 * row + i)) in
          stored-left notes row-notes (8 * row) 8 v eight (omega (arith, g.long)) ev k old ∙ g.done.front k old
      by k below (no new) =
          let eight : length row-notes ≡ 8 = ap length en ∙ length-tabulate 8 (λ i. note (8 * row + i)) in
          let j : ℕ = k - 8 * row in
          let at : 8 * row + j ≡ k = omega arith in
          rw at
          at (stored-inside notes row-notes (8 * row) 8 v eight (omega (arith, g.long)) ev j (omega arith)
          ∙ ap (λ (t : List ℕ). get_or t j 0) en
          ∙ get_d_tabulate 8 (λ i. note (8 * row + i)) j (omega arith))
