-- `draw_cells` meets its contract.
use Prim.Native.Nat.{◌+◌, ◌*◌}
use mathlib.Core.Path.{◌≡◌}
use mathlib.Core.List.{[]}
use Rattle.planes.specs.Cells.{cell_width, margin}
use Rattle.planes.specs.Pixel.{pixel_of}
use Rattle.planes.proofs.Laws.Plane.{ShownCells}
use Rattle.planes.proofs.plane.draw_cells.Given as goal

abbrev pub invariant-loop-i : goal.invariant-loop-i
invariant-loop-i l = (l.at ≡ margin l.mode + l.i * cell_width l.mode) × ShownCells (pixel_of l.screen.registers []) l.mode l.screen.registers l.l l.screen.vram.now l.line l.i
