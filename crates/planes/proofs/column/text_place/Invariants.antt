-- `text_place`: what is left to count is less than what the halves from here on reach.
use Prim.Native.Nat.{◌+◌, ◌*◌, ◌-◌, ◌^◌, ◌<◌}
use mathlib.Core.Path.{◌≡◌}
use Rattle.planes.proofs.column.text_place.Given as goal

abbrev pub invariant-loop-cells : goal.invariant-loop-cells
invariant-loop-cells l = (l.x ≡ 8 + (l.cell * 6 + l.pixel)) × (l.pixel < 2 ^ (6 - l.cells-index) * 6)
