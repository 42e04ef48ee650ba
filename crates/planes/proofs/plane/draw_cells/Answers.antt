-- `draw_cells` meets its contract.
use Rattle.std.proofs.Common.{◌<◌, ◌≤◌, arith}
use native.Mathlib.Nat.{zero-mul, add-zero}
use Rattle.planes.specs.Cells.{cells_in}
use Rattle.planes.proofs.Laws.Plane.{shown-none, shown-cell, shown-plane}
use Rattle.planes.proofs.plane.draw_cells.Goals as goal

pub loop-i-init : goal.loop-i-init
loop-i-init c = (
  rw (zero-mul, add-zero) c.margin_of-at.ensures,
  shown-none c.told-line (rw c.behind_planes-behind.ensures at (c.fill.ensures.after (λ y e. e))),
)

pub loop-i-preserved : goal.loop-i-preserved
loop-i-preserved c =
    let more : c.loop-i.i < cells_in c.args.mode = grind (arith, c.cells_in-cells.ensures) in (
      omega (arith, c.cell_width-width.ensures),
      shown-cell more c.loop-i.invariant.1
          (simp (c.loop-i.invariant.0, c.cell_of-cell.ensures, c.behind_planes-behind.ensures) at c.show_cell.ensures),
    )

pub returns : goal.returns
returns c =
    let all : cells_in c.args.mode ≤ c.loop-i.i = grind (arith, c.cells_in-cells.ensures) in
    shown-plane all c.loop-i.invariant.1
