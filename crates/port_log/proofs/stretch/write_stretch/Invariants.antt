-- `write_stretch`: each data write leaves a run that ends as before.
use Prim.Native.Nat.{◌+◌, ◌*◌, ◌/◌, ◌-◌, ◌≤◌, ◌<◌}
use mathlib.Core.Path.{◌≡◌}
use lib.ListN.{length, get_or}
use Rattle.port_log.specs.Rest.{EndsAlike}
use Rattle.port_log.proofs.stretch.write_stretch.Given as goal

abbrev pub invariant-loop-next : goal.invariant-loop-next
invariant-loop-next l = (l.i ≤ l.next)
    × (2 * l.next + 1 < length l.records)
    × (get_or l.records (2 * l.next) 0 ≡ 0)
    × (length l.vram ≡ length l.initial.vram)
    × (length l.map ≡ length l.initial.map)
    × EndsAlike l.records l.i l.initial.chip l.initial.vram l.initial.map l.next l.chip l.vram l.map

abbrev pub decreases-loop-next : goal.decreases-loop-next
decreases-loop-next l = length l.records / 2 - l.next
