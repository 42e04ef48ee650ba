-- `put_plane` meets its contract.
use Rattle.std.proofs.Common.{arith}
use Rattle.text.proofs.Laws.Put.{put-put}
use Rattle.pixel.specs.Origins.{name_at, labelled, tables_text, plane_text}
use Rattle.pixel.proofs.origins.put_plane.Goals as goal

pub returns-clause-out_after : goal.returns-clause-out_after
unfolding plane_text
returns-clause-out_after c = grind (arith, put-put c.args.at (labelled name_at c.addresses_at-a.result.name) (tables_text c.mode_of-mode.result c.addresses_at-a.result) c.args.out.now)
