-- Lines that are due by the bits of a byte for each row.
use Prim.Native.Nat.{ℕ, ◌+◌, ◌*◌, ◌/◌, ◌%◌, ◌<◌}
use native.Mathlib.Omega.{arith}
use mathlib.Core.Path.{◌≡◌, sym, ap, ◌∙◌}
use mathlib.Core.Bool.{Bool, true, false, cond}
use mathlib.Core.List.{List}
use lib.ListN.{length, get_or, replicate, length-replicate, get_or-replicate}
use Rattle.chip.specs.Bits.{bit}
use Rattle.chip.specs.Lists.{tabulate}
use Rattle.chip.proofs.Laws.Bits.{bit-zero}
use Rattle.chip.proofs.Laws.Lists.{tabulate-same}
use Rattle.scanline.specs.Calls.{note_at, colours}
use Rattle.dirty.specs.Clear.{is_clear}
use Rattle.dirty.specs.Rows.{RowBits}
use Rattle.dirty.proofs.Laws.Clear.{everywhere}
use Rattle.redraw.proofs.Laws.Still.{frame-stays, notes-stay, count_same, no-count}
use Rattle.frame.specs.Lines.{lines_end_to_end, line_at, count_below}
use Rattle.frame.specs.Due.{due, new_line, new_frame, new_notes, due_count}
use Rattle.frame.specs.Rows.{due_bit, line_by, note_by_rows}
use Rattle.frame.proofs.Laws.Lines.{end_same}

-- one byte for every row
pub all-rows : (byte : ℕ) (is : ℕ → Bool) (b : Bool) → ((k : ℕ) → k < 8 → bit k byte ≡ b) → ((l : ℕ) → is l ≡ b) → RowBits (replicate 24 byte) is
all-rows byte is b bits same =
    record {
      long = length-replicate {A = ℕ} 24 byte;
      line = λ row k hr hk. ap (bit k) (get_or-replicate 24 row byte 0 hr) ∙ bits k hk ∙ sym (same (8 * row + k));
    }

-- the bit of line l
pub row-bit : {rows : List ℕ} {is : ℕ → Bool} → RowBits rows is → (l : ℕ) → l < 192 → due_bit rows l ≡ is l
row-bit {rows} {is} p l h =
    let e : 8 * (l / 8) + l % 8 ≡ l = omega arith in
    p.line (l / 8) (l % 8) (omega arith) (omega arith) ∙ ap is e

-- Where the lines are due by the rows' bits, what is left by the bits is what a refresh leaves.
module _ (redraw : Bool) {rows : List ℕ} (r vram map : List ℕ) (bits : RowBits rows (due redraw r vram map)) where
  pub count-by-bits : count_below 192 (due_bit rows) ≡ due_count redraw r vram map
  count-by-bits = count_same 192 (due_bit rows) (due redraw r vram map) (row-bit bits)

  pub frame-by-bits : (frame : List ℕ) → lines_end_to_end 192 (line_by rows r vram frame) ≡ new_frame redraw r vram map frame
  frame-by-bits frame = end_same 192 (line_by rows r vram frame) (new_line redraw r vram map frame) (λ l h. ap (λ (b : Bool). cond b (colours r vram l) (line_at frame l)) (row-bit bits l h))

  pub notes-by-bits : (notes : List ℕ) → tabulate 192 (note_by_rows rows r vram notes) ≡ new_notes redraw r vram map notes
  notes-by-bits notes = tabulate-same 192 (λ l h. ap (λ (b : Bool). cond b (note_at r vram l) (get_or notes l 0)) (row-bit bits l h))

  -- where all bytes are 0 no line is due
  module _ (clear : is_clear rows ≡ true) where
    none_by_bits : (l : ℕ) → l < 192 → due redraw r vram map l ≡ false
    none_by_bits l h = sym (row-bit bits l h) ∙ ap (bit (l % 8)) (everywhere rows clear (l / 8)) ∙ bit-zero (l % 8)

    pub none-counted : 0 ≡ due_count redraw r vram map
    none-counted = no-count (due redraw r vram map) 192 none_by_bits

    pub frame-as-lent : {frame : List ℕ} → length frame ≡ 49152 → frame ≡ new_frame redraw r vram map frame
    frame-as-lent {frame} e = frame-stays (due redraw r vram map) 192 none_by_bits (colours r vram) frame e

    pub notes-as-lent : {notes : List ℕ} → length notes ≡ 192 → notes ≡ new_notes redraw r vram map notes
    notes-as-lent {notes} e = notes-stay (due redraw r vram map) 192 none_by_bits (note_at r vram) notes e

pub ruleset by_bits = (count-by-bits, frame-by-bits, notes-by-bits, none-counted, frame-as-lent, notes-as-lent)
