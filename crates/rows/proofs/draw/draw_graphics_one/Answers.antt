-- `draw_graphics_one`: the cells before `i` are painted.
use native.Mathlib.Omega.{arith}
use mathlib.Core.Path.{◌≡◌}
use Rattle.chip.specs.declared.mode.Mode.TheVariants.{GraphicsI}
use Rattle.rows.proofs.Laws.Cells.{cell-graphics-one}
use Rattle.rows.proofs.Laws.Paints.{shown}
use Rattle.rows.proofs.Laws.Plane.{settled-cells, all_settled}
use Rattle.rows.proofs.Laws.Settled.{settled-none}
use Rattle.rows.proofs.Laws.Tiles.{tiled-more}
use Rattle.rows.proofs.draw.draw_graphics_one.Goals as goal

pub loop-i-preserved : goal.loop-i-preserved
loop-i-preserved c = tiled-more GraphicsI (omega (arith, c.names_from-name-items.ensures.0)) (omega arith) c.loop-i.invariant c.paint_patterns.ensures

pub returns : goal.returns
returns c =
    let a = c.args in
    let r = a.brush.now.screen.registers in
    let vram = a.brush.now.screen.vram.now in
    let names = c.names_from-name-items.ensures in
    let e : c.loop-i.i ≡ 32 = omega (arith, names.0) in
    all_settled GraphicsI r vram a.row
    (settled-cells GraphicsI r vram a.row
    (rw e at c.loop-i.invariant)
    (λ i k j hi hk hj. rw (names.1 i hi) (shown a.brush.now.paints_are (cell-graphics-one r vram a.row k i hk) (a.brush.now.screen.holds_bytes _) j hj))
    (settled-none c.told-part))
