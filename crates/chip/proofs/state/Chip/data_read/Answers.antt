-- `data_read` meets its contract.
use native.Mathlib.Omega.{arith}
use Rattle.chip.proofs.Laws.State.{address-in}
use Rattle.chip.proofs.state.Chip.data_read.Goals as goal

pub prefetch-requires : goal.prefetch-requires
prefetch-requires c = grind (arith, address-in)
