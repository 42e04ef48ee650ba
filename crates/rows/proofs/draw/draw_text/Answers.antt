-- `draw_text`: the cells before `i` are painted, and the margin on their left.
use Prim.Native.Nat.{◌+◌, ◌*◌}
use native.Mathlib.Omega.{arith}
use mathlib.Core.Path.{◌≡◌, refl}
use Rattle.chip.specs.declared.mode.Mode.TheVariants.{Text}
use Rattle.fetches.specs.Fetch.{value}
use Rattle.planes.specs.Cells.{plane_of}
use Rattle.planes.proofs.Laws.Plane.{left-of-cells, right-of-cells}
use Rattle.rows.proofs.Laws.Cells.{cell-text}
use Rattle.rows.proofs.Laws.Plane.{settled-cells, settled-margin, all_settled}
use Rattle.rows.proofs.Laws.Settled.{settled-none}
use Rattle.rows.proofs.Laws.Shown.{word-shown}
use Rattle.rows.proofs.Laws.Tiles.{tiled-more}
use Rattle.rows.proofs.draw.draw_text.Goals as goal

pub loop-i-preserved : goal.loop-i-preserved
loop-i-preserved c = tiled-more Text (omega (arith, c.names_from-name-items.ensures.0)) (omega arith) c.loop-i.invariant c.paint_bytes.ensures

pub returns : goal.returns
returns c =
    let a = c.args in
    let r = a.brush.now.screen.registers in
    let vram = a.brush.now.screen.vram.now in
    let names = c.names_from-name-items.ensures in
    let e : c.loop-i.i ≡ 40 = omega (arith, names.0) in
    let left = settled-margin Text r vram a.row {at = 0} a.brush.now.paints_are
    (λ k j hk hj. left-of-cells Text (value (plane_of Text r (8 * a.row + k)) vram) (0 + j) (omega arith))
    (settled-none c.told-part)
    c.paint_blocks.ensures in
    let cells = settled-cells Text r vram a.row
    (rw e at c.loop-i.invariant)
    (λ i k j hi hk hj. rw (names.1 i hi) (word-shown c.requires.1 refl _ (a.brush.now.screen.holds_bytes _) (cell-text r vram a.row k i hk) j hj))
    left in
    all_settled Text r vram a.row
    (settled-margin Text r vram a.row {at = 248} a.brush.now.paints_are
    (λ k j hk hj. right-of-cells Text (value (plane_of Text r (8 * a.row + k)) vram) (248 + j) (omega arith))
    cells
    c.paint_blocks-2.ensures)
