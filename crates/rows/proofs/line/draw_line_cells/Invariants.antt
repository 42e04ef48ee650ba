-- `draw_line_cells`: the cells before `i` are painted.
use Prim.Native.Nat.{◌+◌, ◌*◌}
use mathlib.Core.Path.{◌≡◌}
use Rattle.planes.specs.Cells.{cell_width, margin}
use Rattle.rows.specs.Lines.{LineSettled}
use Rattle.rows.specs.Rows.{plane_pixel}
use Rattle.rows.proofs.line.draw_line_cells.Given as goal

abbrev pub invariant-loop-i : goal.invariant-loop-i
invariant-loop-i l = (l.at ≡ margin l.mode + l.i * cell_width l.mode) × LineSettled l.line (plane_pixel l.mode l.brush.screen.registers l.brush.screen.vram.now l.l) (margin l.mode + l.i * cell_width l.mode)
