-- `overlap` meets its contract.
use Rattle.std.proofs.Common.{rules}
use Rattle.blit.proofs.Laws.Columns.{by-limit}
use Rattle.blit.proofs.meet.overlap.Goals as goal

pub returns : goal.returns
returns c = rw c.abs_diff.ensures (by-limit c.args.f c.args.g _ (search rules))
