-- `data_write` meets its contract.
use native.Mathlib.Omega.{arith}
use borrow.Author.Rules.{rules}
use lib.ListN.{length}
use mathlib.Core.Path.{◌≡◌}
use Rattle.chip.proofs.Laws.State.{address-in}
use Rattle.chip.proofs.state.Chip.data_write.Goals as goal

pub take_data_byte-next-requires : goal.take_data_byte-next-requires
take_data_byte-next-requires c = grind (arith, address-in)

pub returns-in_default-as_mut_array : goal.returns-in_default-as_mut_array
returns-in_default-as_mut_array c =
    let long : length c.args.vram.now ≡ 16384 = c.in-Some.ensures.cases.long in
    let short : length c.args.map.now ≡ 2048 → ⊥ = c.in_default-as_mut_array.ensures.cases in
    record { value = search rules; vram_after = rw c.in-Some.ensures.cases.same (search rules); map_after = search rules }
