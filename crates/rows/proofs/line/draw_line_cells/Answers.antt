-- `draw_line_cells`: the cells before `i` are painted.
use Prim.Native.Nat.{ℕ, ◌<◌}
use native.Mathlib.Nat.{zero-mul, add-zero}
use native.Mathlib.Omega.{arith}
use mathlib.Core.Path.{ap, ◌∙◌}
use Rattle.fetches.specs.Fetch.{value}
use Rattle.planes.specs.Cells.{cells_in, cell_of}
use Rattle.rows.proofs.Laws.Line.{line-cell}
use Rattle.rows.proofs.line.draw_line_cells.Goals as goal

pub loop-i-init : goal.loop-i-init
loop-i-init c = (rw (zero-mul, add-zero) c.margin_of-at.ensures, rw (zero-mul, add-zero) c.requires.1)

pub loop-i-preserved : goal.loop-i-preserved
loop-i-preserved c =
    let a = c.args in
    let more : c.loop-i.i < cells_in a.mode = omega (arith, c.cells_in-count.ensures) in (
      omega (arith, c.cell_width-width.ensures),
      line-cell a.mode a.brush.now.screen.registers a.brush.now.screen.vram.now a.l c.coloured_word-word.result c.loop-i.i a.brush.now.paints_are more (c.cell_of-cell.ensures ∙ ap (λ (j : ℕ). value (cell_of a.mode a.brush.now.screen.registers a.l j) a.brush.now.screen.vram.now) (omega arith)) (omega (arith, c.cell_of-cell.type_inv)) c.coloured_word-word.ensures c.loop-i.invariant.1
          (simp (c.loop-i.invariant.0) at c.put_word.ensures),
    )
