-- `put_tables` meets its contract.
use Rattle.std.proofs.Common.{arith}
use Rattle.text.proofs.Laws.Put.{put-put}
use Rattle.pixel.specs.Origins.{pattern_at, register_colours, labelled, tables_text}
use Rattle.pixel.proofs.origins.put_tables.Goals as goal

pub returns-in-Text-clause-out_after : goal.returns-in-Text-clause-out_after
unfolding tables_text
returns-in-Text-clause-out_after c = rw c.in-Text.is (grind (arith, put-put c.args.at (labelled pattern_at c.args.a.pattern) register_colours c.args.out.now))
