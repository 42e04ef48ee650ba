-- `draw_plane_with_origins` meets its contract.
use native.Mathlib.Nat.{zero-mul, add-zero}
use native.Mathlib.Omega.{arith}
use Rattle.planes.proofs.Laws.Plane.{shown-none, shown-cell, shown-plane}
use Rattle.planes.proofs.plane.draw_plane_with_origins.Goals as goal

pub loop-i-init : goal.loop-i-init
loop-i-init c = (
  rw (zero-mul, add-zero) c.margin_of-at.ensures,
  shown-none c.told-line (rw c.behind_planes-colour.ensures at (c.fill.ensures.after (λ y e. e))),
  shown-none c.told-origins (rw (c.code.ensures, c.pixel_behind-behind.ensures) at (c.fill-2.ensures.after (λ y e. e))),
)

pub loop-i-preserved : goal.loop-i-preserved
loop-i-preserved c =
    let more = rw c.cells_in-i-end.ensures at c.loop-i-test.true in (
      omega (arith, c.cell_width-width.ensures),
      shown-cell more c.loop-i.invariant.1 (simp (c.loop-i.invariant.0, c.cell_of-cell.ensures, c.behind_planes-colour.ensures) at c.show_cell.ensures),
      shown-cell more c.loop-i.invariant.2 (simp (c.loop-i.invariant.0, c.cell_of-cell.ensures, c.pixel_behind-behind.ensures) at c.show_origins.ensures),
    )

pub returns-clause-line_after : goal.returns-clause-line_after
returns-clause-line_after c = shown-plane (rw c.cells_in-i-end.ensures at c.loop-i-test.false) c.loop-i.invariant.1

pub returns-clause-origins_after : goal.returns-clause-origins_after
returns-clause-origins_after c = shown-plane (rw c.cells_in-i-end.ensures at c.loop-i-test.false) c.loop-i.invariant.2
