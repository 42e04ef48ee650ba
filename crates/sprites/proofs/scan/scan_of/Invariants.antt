-- `scan_of` meets its contract.
use Rattle.std.proofs.Common.{◌-◌}
use Rattle.sprites.proofs.Laws.Scan.{Going}
use Rattle.sprites.proofs.scan.scan_of.Given as goal

abbrev pub invariant-loop-n : goal.invariant-loop-n
invariant-loop-n l = Going l.screen.registers l.l l.screen.vram.now l.sprites l.drawn l.n

abbrev pub decreases-loop-n : goal.decreases-loop-n
decreases-loop-n l = 32 - l.n
