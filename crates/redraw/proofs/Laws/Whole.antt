-- A row whose eight lines are all due.
use Prim.Native.Nat.{ℕ, ◌+◌, ◌*◌, ◌<◌}
use native.Mathlib.Omega.{arith}
use mathlib.Core.Path.{◌≡◌, refl, sym, ap, ◌∙◌}
use mathlib.Core.List.{List}
use lib.ListN.{length, get_or, replicate, length-replicate, get_or-replicate}
use lib.Seq.{take_all}
use Rattle.chip.specs.Bits.{bit}
use Rattle.chip.proofs.Laws.Bits.{full-bit}
use Rattle.chip.proofs.Laws.Ranges.{and_left}
use Rattle.chip.proofs.Laws.Lists.{tabulated, length-tabulate}
use Rattle.rows.specs.Rows.{plane_row}
use Rattle.redraw.specs.Lines.{line_at, count_below}
use Rattle.redraw.specs.Row.{LineSet, row_line, row_lines, row_notes, row_count}
use Rattle.redraw.specs.declared.drawing.Drawing.{Drawing}
use Rattle.redraw.specs.declared.line.Planes.{Planes}
use Rattle.redraw.specs.declared.line.Planes.TheVariants.{Here, Beside, Nowhere}
use Rattle.redraw.proofs.Laws.Lines.{end_same}
use Rattle.redraw.proofs.Laws.Finish.{empty-note, empty-line}
use Rattle.redraw.proofs.Laws.Row.{plane-line}
use Rattle.redraw.proofs.Laws.Still.{front-lines}

-- all eight are counted
pub whole-count : {due : ℕ} → due ≡ 255 → 8 ≡ row_count due
unfolding count_below
whole-count e = rw e

pub ruleset whole = (and_left, whole-count)

module _ (d : Drawing) (row : ℕ) where
  abbrev r : List ℕ
  r = d.brush.screen.registers

  abbrev vram : List ℕ
  vram = d.brush.screen.vram.now

  -- where all eight lines are due, it does not matter what they held
  pub whole_row : {due : ℕ} → due ≡ 255 → (new old : List ℕ) → row_lines r vram row due new ≡ row_lines r vram row due old
  whole_row {due} e new old = end_same 8 (row_line r vram row due new) (row_line r vram row due old) (λ k h. rw (ap (bit k) e ∙ full-bit k h))

  -- the part as it was lent, where the planes are not drawn into it; where they are, all lines are due
  pub as_lent : {due : ℕ} {new old : List ℕ} (p : Planes) → (p ≡ Here → due ≡ 255) → ((p ≡ Here → ⊥) → new ≡ old) → row_lines r vram row due new ≡ row_lines r vram row due old
  as_lent {new = new} {old} Here whole same = whole_row (whole refl) new old
  as_lent {due} Beside whole same = ap (row_lines r vram row due) (same (λ e. cc))
  as_lent {due} Nowhere whole same = ap (row_lines r vram row due) (same (λ e. cc))

  -- A row whose eight lines are due and have no sprites: its planes are its lines, and each note is 32.
  module _ (low : row < 24) (none : (k : ℕ) → k < 8 → get_or d.sets.now (8 * row + k) 0 ≡ 0) where
    set-of : (k : ℕ) → k < 8 → LineSet r vram (8 * row + k) (get_or d.sets.now (8 * row + k) 0)
    set-of k h = d.sets_are.line (8 * row + k) (omega arith)

    pub plain_lines : (part : List ℕ) {planes : List ℕ} → planes ≡ plane_row d.mode r vram row → planes ≡ row_lines r vram row 255 part
    plain_lines part {planes} e =
        let long : length planes ≡ 2048 = ap length e ∙ length-tabulate 2048 _ in
        sym
        (end_same 8 (row_line r vram row 255 part) (line_at planes) (λ k h. rw (full-bit k h) (sym (plane-line d row k h e ∙ empty-line (set-of k h) (none k h) refl)))
        ∙ front-lines planes 8
        ∙ take_all 2048 planes (omega arith))

    pub plain-notes : (notes : List ℕ) → replicate 8 32 ≡ row_notes r vram row 255 notes
    plain-notes notes = tabulated (length-replicate {A = ℕ} 8 32) (λ k h. rw (full-bit k h) (get_or-replicate 8 k 32 0 h ∙ empty-note (set-of k h) (none k h)))

pub ruleset plain = (plain_lines, plain-notes)
