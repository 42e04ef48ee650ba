-- `draw_plane_with_origins` meets its contract.
use Prim.Native.Nat.{ℕ, ◌+◌, ◌*◌}
use mathlib.Core.Path.{◌≡◌}
use mathlib.Core.List.{List, []}
use Rattle.planes.specs.Cells.{cell_width, margin}
use Rattle.planes.specs.Pixel.{pixel_of}
use Rattle.planes.specs.Origin.{origin_code, settle}
use Rattle.planes.proofs.Laws.Plane.{ShownCells}
use Rattle.planes.proofs.plane.draw_plane_with_origins.Given as goal

abbrev pub code_of : List ℕ → ℕ → ℕ
code_of r c = origin_code (settle r [] c).origin

abbrev pub invariant-loop-i : goal.invariant-loop-i
invariant-loop-i l = (l.at ≡ margin l.mode + l.i * cell_width l.mode) × ShownCells (pixel_of l.screen.registers []) l.mode l.screen.registers l.l l.screen.vram.now l.line l.i × ShownCells (code_of l.screen.registers) l.mode l.screen.registers l.l l.screen.vram.now l.origins l.i
