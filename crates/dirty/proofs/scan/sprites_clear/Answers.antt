-- `sprites_clear` meets its contract.
use mathlib.Core.Path.{ap}
use mathlib.Core.Bool.{not}
use Rattle.dirty.proofs.Laws.Marks.{clean-part}
use Rattle.dirty.proofs.Laws.Scan.{all-clear}
use Rattle.dirty.proofs.scan.sprites_clear.Goals as goal

pub returns-then-not-part_dirty : goal.returns-then-not-part_dirty
returns-then-not-part_dirty c =
    λ clear l vram bytes.
    let a = c.args in
    let attributes = clean-part a.map.now c.attributes_from.result 16 c.part_dirty.ensures (ap not c.if-not-part_dirty.true) in
    all-clear a.screen.registers l vram a.map.now bytes (rw c.attributes_from.ensures.0 at attributes) (c.patterns_clear.ensures clear)
