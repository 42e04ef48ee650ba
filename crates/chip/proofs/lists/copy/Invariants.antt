-- `copy`: the bytes before `i` are those of `from`.
use mathlib.Core.Path.{◌≡◌}
use lib.ListN.{length, get_or}
use Rattle.chip.proofs.Laws.Lists.{Filled}
use Rattle.chip.proofs.lists.copy.Given as goal

abbrev pub invariant-loop-i : goal.invariant-loop-i
invariant-loop-i l = (length l.to ≡ length l.from) × Filled l.to (λ k. get_or l.from k 0) l.i
