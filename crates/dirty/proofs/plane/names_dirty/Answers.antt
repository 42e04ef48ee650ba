-- `names_dirty` meets its contract.
use Prim.Native.Nat.{ℕ, ◌+◌, ◌*◌}
use mathlib.Core.Path.{sym, ap, ◌∙◌}
use Rattle.chip.specs.Map.{is_dirty}
use Rattle.chip.specs.Ranges.{any_below}
use Rattle.chip.proofs.Laws.Ranges.{any_same}
use Rattle.planes.specs.Cells.{cells_in, name_address}
use Rattle.dirty.proofs.Laws.Plane.{name-at}
use Rattle.dirty.proofs.plane.names_dirty.Goals as goal

pub returns : goal.returns
returns c =
    λ k h.
    let a = c.args in
    let map = a.map.now in
    c.part_dirty.ensures
    ∙ ap (λ (cells : ℕ). any_below cells (λ i. is_dirty map (8 * c.names_from.result + i))) c.names_long.ensures
    ∙ any_same (cells_in a.mode) (λ i. is_dirty map (8 * c.names_from.result + i)) (λ i. is_dirty map (name_address a.mode a.screen.registers (8 * a.row + k) i))
    (λ i below. ap (is_dirty map) (sym (name-at a.screen.registers a.mode a.row (8 * c.names_from.result) k c.names_from.ensures h i)))
