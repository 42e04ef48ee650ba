-- `paint_blocks` meets its contract.
use Rattle.std.proofs.Common.{rules}
use Rattle.rows.proofs.stripe.paint_blocks.Goals as goal

pub returns : goal.returns
returns c = c.paint_lines.ensures _ (λ k w j hk p hj. search rules)
