-- `control_write` meets its contract.
use native.Mathlib.Omega.{arith}
use Rattle.chip.proofs.Laws.State.{address-in}
use Rattle.chip.proofs.state.Chip.control_write.Goals as goal

pub take_control_byte-next-requires : goal.take_control_byte-next-requires
take_control_byte-next-requires c = grind (arith, address-in)
