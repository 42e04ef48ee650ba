-- `row_dirty` meets its contract.
use Prim.Native.Nat.{◌+◌, ◌*◌}
use mathlib.Core.Path.{sym, ap₂, ◌∙◌}
use mathlib.Core.Bool.{◌||◌}
use Rattle.chip.proofs.Laws.Bits.{bit-or, full-bit}
use Rattle.dirty.proofs.Laws.Plane.{told_names}
use Rattle.dirty.proofs.plane.row_dirty.Goals as goal

pub returns-then-names_dirty : goal.returns-then-names_dirty
returns-then-names_dirty c =
    λ k h.
    let a = c.args in
    full-bit k h ∙ sym (told_names a.screen.registers a.screen.vram.now a.map.now a.mode (8 * a.row + k) (sym c.if-names_dirty.true ∙ c.names_dirty.ensures k h))

pub returns : goal.returns
returns c =
    λ k h.
    let a = c.args in
    bit-or k c.cells_dirty.result c.cells_dirty-2.result
    ∙ ap₂ ◌||◌ (c.cells_dirty.ensures k h) (c.cells_dirty-2.ensures k h)
    ∙ sym (told_names a.screen.registers a.screen.vram.now a.map.now a.mode (8 * a.row + k) (sym c.if-names_dirty.false ∙ c.names_dirty.ensures k h))
