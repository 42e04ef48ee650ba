-- `put_pattern_then_colours` meets its contract.
use Rattle.std.proofs.Common.{arith}
use Rattle.text.proofs.Laws.Put.{put-put}
use Rattle.pixel.specs.Origins.{pattern_at, colours_at, labelled}
use Rattle.pixel.proofs.origins.put_pattern_then_colours.Goals as goal

pub returns-clause-out_after : goal.returns-clause-out_after
returns-clause-out_after c = grind (arith, put-put c.args.at (labelled pattern_at c.args.a.pattern) (labelled colours_at c.args.a.colours) c.args.out.now)
