-- `draw_multicolor`: the cells before `i` are painted.
use native.Mathlib.Omega.{arith}
use mathlib.Core.Path.{◌≡◌, refl}
use Rattle.chip.specs.declared.mode.Mode.TheVariants.{Multicolor}
use Rattle.rows.proofs.Laws.Cells.{cell-upper, cell-lower}
use Rattle.rows.proofs.Laws.Plane.{settled-cells, all_settled}
use Rattle.rows.proofs.Laws.Settled.{settled-none}
use Rattle.rows.proofs.Laws.Shown.{word-half}
use Rattle.rows.proofs.Laws.Tiles.{tiled-more}
use Rattle.rows.proofs.draw.draw_multicolor.Goals as goal

pub loop-i-preserved : goal.loop-i-preserved
loop-i-preserved c = tiled-more Multicolor (omega (arith, c.names_from-name-items.ensures.0)) (omega arith) c.loop-i.invariant c.paint_blocks.ensures

pub returns : goal.returns
returns c =
    let a = c.args in
    let r = a.screen.registers in
    let vram = a.screen.vram.now in
    let names = c.names_from-name-items.ensures in
    let e : c.loop-i.i ≡ 32 = omega (arith, names.0) in
    all_settled Multicolor r vram a.row
    (settled-cells Multicolor r vram a.row
    (rw e at c.loop-i.invariant)
    (λ i k j hi hk hj. rw (names.1 i hi) (word-half c.requires.1 refl k _ _ (a.screen.holds_bytes _) (a.screen.holds_bytes _) (cell-upper r vram a.row k i hk) (cell-lower r vram a.row k i hk) j hj))
    (settled-none c.told-part))
