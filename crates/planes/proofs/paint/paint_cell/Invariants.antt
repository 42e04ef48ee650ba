-- `paint_cell` meets its contract.
use Prim.Native.Nat.{◌-◌}
use mathlib.Core.Bool.{cond}
use Rattle.chip.specs.Bits.{bit}
use Rattle.planes.specs.Painted.{Painted}
use Rattle.planes.proofs.paint.paint_cell.Given as goal

abbrev pub invariant-loop-k : goal.invariant-loop-k
invariant-loop-k g l = Painted l.line l.initial.line l.at l.k (λ j. cond (bit (7 - j) l.pattern) l.one l.zero)
