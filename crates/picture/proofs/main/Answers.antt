-- A step that does not write the last piece leaves fewer steps.
use Rattle.std.proofs.Common.{◌≡◌, false, rules}
use Rattle.ppm.proofs.Laws.Fewer.{falls}
use Rattle.picture.proofs.main.Goals as goal

pub loop-rt-smaller : goal.loop-rt-smaller
loop-rt-smaller c =
    let more : c.step-piece.result.last ≡ false = search rules in
    falls c.start-walk.new.vram c.loop-rt.walk c.step-piece.ensures.value more
