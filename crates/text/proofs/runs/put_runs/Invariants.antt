-- `put_runs`: what is left to write, put in behind what is written, gives the line's runs.
use Rattle.text.proofs.Laws.Going.{Going}
use Rattle.text.proofs.runs.put_runs.Given as goal

abbrev pub invariant-loop-run : goal.invariant-loop-run
invariant-loop-run l = Going l.initial.out l.at l.line l.out l.end l.run-iterator.rest.now
