-- `same` meets its contract: by the colours at each place.
use Rattle.std.proofs.Common.{rules}
use Rattle.text.proofs.Laws.Runs.{each_is_same, same_each}
use Rattle.text.proofs.range.same.Goals as goal

pub returns : goal.returns
returns c = each_is_same c.args.a.now c.args.b.now c.requires (search (rules, same_each))
