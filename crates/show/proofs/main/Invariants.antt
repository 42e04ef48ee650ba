-- `main` ends: while a piece is not the last, each step leaves fewer steps.
use Rattle.text.specs.Walk.{steps_left}
use Rattle.show.proofs.main.Given as goal

abbrev pub decreases-loop-rt : goal.decreases-loop-rt
decreases-loop-rt l = steps_left l.walk
