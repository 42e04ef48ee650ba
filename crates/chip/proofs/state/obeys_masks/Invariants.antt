-- `obeys_masks`: each register below `n` obeys its mask, and the first that does not decides.
use mathlib.Core.Path.{◌≡◌}
use mathlib.Core.Bool.{true}
use Rattle.chip.specs.Ranges.{all_below}
use Rattle.chip.specs.State.{obeys}
use Rattle.chip.proofs.state.obeys_masks.Given as goal

abbrev pub invariant-loop-n : goal.invariant-loop-n
invariant-loop-n l = all_below l.n (obeys l.x-items) ≡ true
