-- `cells_dirty` meets its contract.
use Prim.Native.Nat.{◌+◌, ◌*◌, ◌<◌}
use native.Mathlib.Omega.{arith}
use mathlib.Core.Path.{sym, ◌∙◌}
use Rattle.chip.proofs.Laws.Bits.{bit-zero}
use Rattle.dirty.proofs.Laws.Plane.{none-dirty}
use Rattle.dirty.proofs.plane.cells_dirty.Goals as goal

pub returns-else-dirty : goal.returns-else-dirty
returns-else-dirty c =
    λ k h.
    let a = c.args in
    let low : 8 * a.row + k < 192 = omega (arith, c.requires.0) in
    bit-zero k ∙ sym (none-dirty a.screen.registers a.screen.vram.now a.map.now a.screen.holds_bytes (8 * a.row + k) low a.mode a.table (sym c.requires.1 ∙ c.if-dirty.false))
