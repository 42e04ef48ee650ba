-- `put`: the first `i` bytes are put in.
use Rattle.scenes.proofs.Laws.Put.{Put}
use Rattle.scenes.proofs.put.put.Given as goal

abbrev pub invariant-loop-i : goal.invariant-loop-i
invariant-loop-i l = Put l.initial.vram l.at l.bytes l.vram l.i
