-- `draw_text_line` meets its contract.
use Prim.Native.Nat.{◌+◌}
use native.Mathlib.Omega.{arith}
use Rattle.chip.specs.declared.mode.Mode.TheVariants.{Text}
use Rattle.fetches.specs.Fetch.{value}
use Rattle.planes.specs.Cells.{plane_of}
use Rattle.planes.proofs.Laws.Plane.{left-of-cells, right-of-cells}
use Rattle.rows.proofs.Laws.Line.{line-none, line-margin, line-all}
use Rattle.rows.proofs.line.draw_text_line.Goals as goal

pub draw_line_cells-requires : goal.draw_line_cells-requires
draw_line_cells-requires c =
    let left = line-margin Text c.args.brush.now.screen.registers c.args.brush.now.screen.vram.now c.args.l {at = 0} c.args.brush.now.paints_are
    (λ j h. left-of-cells Text (value (plane_of Text c.args.brush.now.screen.registers c.args.l) c.args.brush.now.screen.vram.now) (0 + j) (omega arith))
    (line-none c.told-line)
    c.put_word.ensures in
    (c.requires, left)

pub returns : goal.returns
returns c =
    line-all
    (line-margin Text c.args.brush.now.screen.registers c.args.brush.now.screen.vram.now c.args.l {at = 248} c.args.brush.now.paints_are
    (λ j h. right-of-cells Text (value (plane_of Text c.args.brush.now.screen.registers c.args.l) c.args.brush.now.screen.vram.now) (248 + j) (omega arith))
    c.draw_line_cells.ensures
    c.put_word-2.ensures)
