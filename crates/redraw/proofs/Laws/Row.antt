-- The lines of a row, drawn one after another.
use Prim.Native.Nat.{ℕ, ◌+◌, ◌-◌, ◌*◌, ◌/◌, ◌%◌, ◌<◌}
use native.Mathlib.Omega.{arith}
use mathlib.Core.Path.{◌≡◌, sym, ap, ap₂, ◌∙◌}
use mathlib.Core.Bool.{Bool, cond}
use mathlib.Core.List.{List, ◌++◌}
use lib.ListN.{length, get_or, take, drop, set, length-drop}
use lib.Seq.{get_or-take, get_or-drop, length-take-le}
use mir.Val.{bool_byte}
use Rattle.chip.specs.Bits.{bit}
use Rattle.chip.proofs.Laws.Lists.{tabulated, length-tabulate, get_d_tabulate}
use Rattle.rows.specs.Rows.{plane_pixel, plane_row}
use Rattle.scanline.specs.Calls.{note_at, colours}
use Rattle.redraw.specs.Lines.{line_at}
use Rattle.redraw.specs.Row.{plane_line, row_line, row_note, row_notes}
use Rattle.redraw.specs.declared.drawing.Drawing.{Drawing}
use Rattle.redraw.proofs.Laws.Lines.{length-line, either-long, old-line, bit-small, count-le}
use Rattle.redraw.proofs.Laws.Redraw.{Redrawn, prefix-long, redrawn-none, redrawn-line}

-- the part of eight lines that begins at line k is that line
pub part-at : (k : ℕ) (lines : List ℕ) → take (256 * k + 256 - 256 * k) (drop (256 * k) lines) ≡ line_at lines k
part-at k lines = let width : 256 * k + 256 - 256 * k ≡ 256 = omega arith in ap (λ (w : ℕ). take w (drop (256 * k) lines)) width

-- line k of a row's planes
pub plane-line : (d : Drawing) (row k : ℕ) {planes : List ℕ} → k < 8 → planes ≡ plane_row d.mode d.brush.screen.registers d.brush.screen.vram.now row → line_at planes k ≡ plane_line d.brush.screen.registers d.brush.screen.vram.now (8 * row + k)
plane-line d row k {planes} h e =
    let f : ℕ → ℕ = λ i. plane_pixel d.mode d.brush.screen.registers d.brush.screen.vram.now (8 * row + i / 256) (i % 256) in
    let long : length planes ≡ 2048 = ap length e ∙ length-tabulate 2048 f in
    rw (sym d.mode_is)
    (tabulated (length-take-le 256 (drop (256 * k) planes) (rw length-drop (omega arith)))
    (λ x below.
    let line : 8 * row + (256 * k + x) / 256 ≡ 8 * row + k = omega arith in
    let column : (256 * k + x) % 256 ≡ x = omega arith in
    get_or-take 256 (drop (256 * k) planes) x 0 below
    ∙ get_or-drop (256 * k) planes x 0
    ∙ ap (λ (t : List ℕ). get_or t (256 * k + x) 0) e
    ∙ get_d_tabulate 2048 f (256 * k + x) (omega arith)
    ∙ ap₂ (plane_pixel d.mode d.brush.screen.registers d.brush.screen.vram.now) line column))

abbrev line_of : Drawing → ℕ → ℕ → List ℕ → ℕ → List ℕ
line_of d = row_line d.brush.screen.registers d.brush.screen.vram.now

abbrev note_of : Drawing → ℕ → ℕ → List ℕ → ℕ → ℕ
note_of d = row_note d.brush.screen.registers d.brush.screen.vram.now

-- The lines of a row before k are redrawn if due, and counted.
pub record RowRedrawn (d : Drawing) (row due : ℕ) (part₀ notes₀ part notes : List ℕ) (count k : ℕ) : Type 0 where
  pub redrawn : Redrawn 8 (line_of d row due part₀) (note_of d row due notes₀) (λ j. bit j due) part₀ notes₀ part notes count k

wide : (d : Drawing) (row due : ℕ) (part : List ℕ) → length part ≡ 2048 → (k : ℕ) → k < 8 → length (line_of d row due part k) ≡ 256
wide d row due part long k h = either-long (bit k due) (colours d.brush.screen.registers d.brush.screen.vram.now (8 * row + k)) (line_at part k) (length-tabulate 256 _) (length-line part k (omega arith))

module _ {d : Drawing} {row due : ℕ} {part₀ notes₀ : List ℕ} (long : length part₀ ≡ 2048) where
  pub row-none : length notes₀ ≡ 8 → RowRedrawn d row due part₀ notes₀ part₀ notes₀ 0 0
  row-none e = record { redrawn = redrawn-none 8 (line_of d row due part₀) (note_of d row due notes₀) (λ j. bit j due) (wide d row due part₀ long) e }

  module _ {part notes : List ℕ} {count k : ℕ} (more : k < 8) (g : RowRedrawn d row due part₀ notes₀ part notes count k) where
    -- line k, before it is redrawn, is as it was
    pub line-kept : take (256 * k + 256 - 256 * k) (drop (256 * k) part) ≡ line_at part₀ k
    line-kept = part-at k part ∙ old-line (line_of d row due part₀) part₀ part k (prefix-long 8 (line_of d row due part₀) (note_of d row due notes₀) (λ j. bit j due) (wide d row due part₀ long) more g.redrawn) g.redrawn.lines

    pub row-more : {line : List ℕ} {note : ℕ} {b : Bool} → b ≡ bit k due → line ≡ cond b (colours d.brush.screen.registers d.brush.screen.vram.now (8 * row + k)) (take (256 * k + 256 - 256 * k) (drop (256 * k) part)) → note ≡ cond b (note_at d.brush.screen.registers d.brush.screen.vram.now (8 * row + k)) (get_or notes k 0) → RowRedrawn d row due part₀ notes₀ (take (256 * k) part ++ (line ++ drop (256 * k + 256 - 256 * k) (drop (256 * k) part))) (set notes k note) (count + bool_byte b) (k + 1)
    row-more eb el en =
        let width : 256 * k + 256 - 256 * k ≡ 256 = omega arith in
        record {
          redrawn =
              redrawn-line 8 (line_of d row due part₀) (note_of d row due notes₀) (λ j. bit j due) (wide d row due part₀ long) more long g.redrawn width
              (rw eb at el ∙ ap (cond (bit k due) (colours d.brush.screen.registers d.brush.screen.vram.now (8 * row + k))) line-kept)
              (rw eb at en ∙ ap (cond (bit k due) (note_at d.brush.screen.registers d.brush.screen.vram.now (8 * row + k))) (g.redrawn.rest k (omega arith)))
              eb;
        }

module _ {d : Drawing} {row due : ℕ} {part₀ notes₀ part notes : List ℕ} {count k : ℕ} (e : k ≡ 8) (g : RowRedrawn d row due part₀ notes₀ part notes count k) where
  pub row-notes : notes ≡ row_notes d.brush.screen.registers d.brush.screen.vram.now row due notes₀
  row-notes = tabulated g.redrawn.long (rw e at g.redrawn.done.front)

pub ruleset redrawing = (count-le, bit-small, row-none)
