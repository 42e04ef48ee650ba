-- `draw_found` meets its contract.
use lib.ListN.{take, drop}
use Rattle.sprites.specs.Pixels.{coincidence}
use Rattle.sprites.proofs.Laws.Draw.{Over}
use Rattle.blit.proofs.draw.draw_found.Given as goal

abbrev pub invariant-loop-k : goal.invariant-loop-k
invariant-loop-k l = Over l.fn.scan.registers (drop l.k (take l.fn.scan.drawn l.fn.scan.sprites)) l.initial.line l.line (coincidence l.fn.scan.registers (drop l.k (take l.fn.scan.drawn l.fn.scan.sprites)))
