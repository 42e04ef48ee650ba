-- `sets_of` meets its contract.
use Rattle.std.proofs.Common.{sym, ◌∙◌, arith, rules}
use Rattle.sets.proofs.Laws.Sets.{begun-start, begun_more}
use Rattle.sets.proofs.set.sets_of.Goals as goal

pub loop-n-init : goal.loop-n-init
loop-n-init c = begun-start (search rules)

pub loop-n-preserved : goal.loop-n-preserved
loop-n-preserved c =
    let y = c.attribute_address.ensures in
    begun_more c.loop-n.invariant _ (omega arith) (rw y at (sym c.is_terminator.ensures ∙ c.if-is_terminator.false)) c.add_sprite.array_long (rw y at c.add_sprite.ensures)
