-- One row of a frame that is redrawn by a byte for each row.
use Prim.Native.Nat.{ℕ, ◌+◌, ◌*◌, ◌/◌, ◌%◌, ◌≤◌, ◌<◌}
use native.Mathlib.Omega.{arith}
use mathlib.Core.Path.{◌≡◌, ap, ap₂, ◌∙◌}
use mathlib.Core.Bool.{Bool, cond}
use mathlib.Core.List.{List, ◌++◌}
use lib.ListN.{length, get_or, take, drop}
use lib.Seq.{get_or-take, get_or-drop}
use Rattle.chip.specs.Bits.{bit}
use Rattle.chip.specs.Lists.{tabulate}
use Rattle.chip.proofs.Laws.Lists.{length-tabulate, tabulated, tabulate-same}
use Rattle.scanline.specs.Calls.{note_at, colours}
use Rattle.redraw.specs.Row.{row_line, row_lines, row_notes, row_count}
use Rattle.redraw.proofs.Laws.Redraw.{Redrawn, redrawn-none}
use Rattle.redraw.proofs.Laws.Still.{count_same}
use Rattle.frame.specs.Lines.{lines_end_to_end, line_at, count_below}
use Rattle.frame.specs.Rows.{due_bit, line_by, note_by_rows}
use Rattle.frame.proofs.Laws.Lines.{end_same, length-line, either-long, count-le}
use Rattle.frame.proofs.Laws.Rows.{line-of-row, rest-as-lent, redrawn-row}

pub wide_by : (rows r vram frame : List ℕ) → length frame ≡ 49152 → (l : ℕ) → l < 192 → length (line_by rows r vram frame l) ≡ 256
wide_by rows r vram frame e l h = either-long (due_bit rows l) (colours r vram l) (line_at frame l) (length-tabulate 256 _) (length-line frame l (omega arith))

module _ (rows r vram : List ℕ) (row : ℕ) where
  -- the bit of line k of the row
  of_row : (k : ℕ) → k < 8 → bit k (get_or rows row 0) ≡ due_bit rows (8 * row + k)
  of_row k h =
      let low : k ≡ (8 * row + k) % 8 = omega arith in
      let high : row ≡ (8 * row + k) / 8 = omega arith in
      ap₂ (λ (i j : ℕ). bit i (get_or rows j 0)) low high

  -- lines, which stood from w bytes of the frame on as they were lent
  pub step_lines : {part : List ℕ} (frame old : List ℕ) (w : ℕ) → w ≡ 2048 → length old ≡ 49152 → row < 24 → drop (2048 * row) frame ≡ drop (2048 * row) old
      → part ≡ row_lines r vram row (get_or rows row 0) (take w (drop (2048 * row) frame))
      → part ≡ lines_end_to_end 8 (λ k. line_by rows r vram old (8 * row + k))
  step_lines {part} frame old w ew long h same e =
      e
      ∙ end_same 8 (row_line r vram row (get_or rows row 0) (take w (drop (2048 * row) frame))) (λ k. line_by rows r vram old (8 * row + k))
      (λ k below.
      ap₂ (λ (b : Bool) (t : List ℕ). cond b (colours r vram (8 * row + k)) t) (of_row k below)
      (ap (λ (t : List ℕ). line_at (take w t) k) same ∙ line-of-row old row k w ew (omega arith) below))

  pub step-notes : {new : List ℕ} (notes old : List ℕ) (v : ℕ) → v ≡ 8 → ((k : ℕ) → 8 * row ≤ k → get_or notes k 0 ≡ get_or old k 0)
      → new ≡ row_notes r vram row (get_or rows row 0) (take v (drop (8 * row) notes))
      → new ≡ tabulate 8 (λ k. note_by_rows rows r vram old (8 * row + k))
  step-notes {new} notes old v ev same e =
      e
      ∙ tabulate-same 8
      (λ k below.
      ap₂ (λ (b : Bool) (t : ℕ). cond b (note_at r vram (8 * row + k)) t) (of_row k below)
      (get_or-take v (drop (8 * row) notes) k 0 (omega arith) ∙ get_or-drop (8 * row) notes k 0 ∙ same (8 * row + k) (omega arith)))

  pub step_count : row_count (get_or rows row 0) ≡ count_below 8 (λ k. due_bit rows (8 * row + k))
  step_count = count_same 8 (λ k. bit k (get_or rows row 0)) (λ k. due_bit rows (8 * row + k)) of_row

-- After l lines of a frame that is redrawn by a byte for each row.
pub record RowsRedrawn (rows r vram frame₀ notes₀ frame notes : List ℕ) (count l : ℕ) : Type 0 where
  pub so : Redrawn 192 (line_by rows r vram frame₀) (note_by_rows rows r vram notes₀) (due_bit rows) frame₀ notes₀ frame notes count l

pub rows-none : (rows r vram : List ℕ) {frame notes : List ℕ} → length frame ≡ 49152 → length notes ≡ 192 → RowsRedrawn rows r vram frame notes frame notes 0 0
rows-none rows r vram {frame} {notes} ef en = record { so = redrawn-none 192 (line_by rows r vram frame) (note_by_rows rows r vram notes) (due_bit rows) (wide_by rows r vram frame ef) en }

pub rows-more : {rows r vram frame₀ notes₀ frame notes part row-notes : List ℕ} {count n w v row : ℕ} → length frame₀ ≡ 49152 → row < 24
    → RowsRedrawn rows r vram frame₀ notes₀ frame notes count (8 * row)
    → w ≡ 2048
    → v ≡ 8
    → part ≡ row_lines r vram row (get_or rows row 0) (take w (drop (2048 * row) frame))
    → row-notes ≡ row_notes r vram row (get_or rows row 0) (take v (drop (8 * row) notes))
    → n ≡ row_count (get_or rows row 0)
    → RowsRedrawn rows r vram frame₀ notes₀ (take (2048 * row) frame ++ (part ++ drop w (drop (2048 * row) frame))) (take (8 * row) notes ++ (row-notes ++ drop v (drop (8 * row) notes))) (count + n) (8 * (row + 1))
rows-more {rows} {r} {vram} {frame₀} {notes₀} {frame} {notes} {w = w} {v = v} {row = row} ef h g ew ev lines row-notes count =
    let line = line_by rows r vram frame₀ in
    let note = note_by_rows rows r vram notes₀ in
    let wide = wide_by rows r vram frame₀ ef in
    record {
      so = redrawn-row line note (due_bit rows) wide h ef g.so ew ev
          (step_lines rows r vram row frame frame₀ w ew ef h (rest-as-lent line note (due_bit rows) wide h ef g.so) lines)
          (step-notes rows r vram row notes notes₀ v ev g.so.rest row-notes)
          (count ∙ step_count rows r vram row);
    }

pub rows-notes : {rows r vram frame₀ notes₀ frame notes : List ℕ} {count l : ℕ} → l ≡ 192 → RowsRedrawn rows r vram frame₀ notes₀ frame notes count l → notes ≡ tabulate 192 (note_by_rows rows r vram notes₀)
rows-notes e g = tabulated g.so.long (rw e at g.so.done.front)

pub ruleset by_rows = (rows-none, count-le)
