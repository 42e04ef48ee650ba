-- `part_dirty` meets its contract.
use native.Mathlib.Nat.{add-sub_cancel_left}
use native.Mathlib.Omega.{arith}
use mathlib.Core.Path.{◌≡◌, sym, ap, ◌∙◌}
use mathlib.Core.Bool.{not}
use lib.ListN.{take, drop}
use Rattle.chip.specs.State.{Bytes}
use Rattle.dirty.specs.Clear.{is_clear}
use Rattle.dirty.proofs.Laws.Parts.{part-dirty}
use Rattle.dirty.proofs.part.part_dirty.Goals as goal

pub returns : goal.returns
returns c =
    let map = c.args.map.now in
    let bytes : Bytes map = λ i. omega (arith, c.type_inv.map i) in
    let clear : c.is_clear.result ≡ is_clear (take c.args.n (drop c.args.from map)) = rw add-sub_cancel_left at c.is_clear.ensures in
    ap not clear ∙ sym (part-dirty map bytes c.args.from c.args.n c.requires)
