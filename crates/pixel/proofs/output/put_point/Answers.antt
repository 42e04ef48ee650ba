-- `put_point` meets its contract.
use Rattle.std.proofs.Common.{arith}
use Rattle.text.proofs.Laws.Put.{put-put}
use Rattle.pixel.specs.Origins.{origin_text}
use Rattle.pixel.specs.Output.{colour_text}
use Rattle.pixel.proofs.Laws.Output.{point-shown}
use Rattle.pixel.proofs.output.put_point.Goals as goal

pub returns-in-Ok-clause-out_after : goal.returns-in-Ok-clause-out_after
returns-in-Ok-clause-out_after c =
    let a = c.args in
    let p = c.in-Ok.found in
    grind (arith, put-put 0 (colour_text p.colour) (origin_text a.chip.registers a.vram.now a.line a.column p.origin) a.out.now, point-shown a.chip a.vram.now a.line a.column)
