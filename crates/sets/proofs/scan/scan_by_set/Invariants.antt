-- `scan_by_set` meets its contract.
use Rattle.sets.proofs.Laws.Scan.{Settled}
use Rattle.sets.proofs.scan.scan_by_set.Given as goal

abbrev pub invariant-loop-left : goal.invariant-loop-left
invariant-loop-left l = Settled l.screen.registers l.screen.vram.now l.l l.set l.sprites l.drawn l.left

abbrev pub decreases-loop-left : goal.decreases-loop-left
decreases-loop-left l = l.left
