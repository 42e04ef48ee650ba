-- `any_meet` meets its contract.
use mathlib.Core.Path.{◌≡◌}
use mathlib.Core.Bool.{false}
use lib.ListN.{get_or}
use Rattle.chip.specs.Ranges.{any_below}
use Rattle.blit.specs.Wide.{no_wide, wides_meet}
use Rattle.blit.proofs.meet.any_meet.Given as goal

abbrev pub invariant-loop-k : goal.invariant-loop-k
invariant-loop-k l = any_below l.k (λ j. any_below j (λ i. wides_meet (get_or l.found i no_wide) (get_or l.found j no_wide))) ≡ false
