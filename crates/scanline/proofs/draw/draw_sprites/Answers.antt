-- `draw_sprites` meets its contract.
use Rattle.std.proofs.Common.{arith}
use Rattle.sprites.proofs.Laws.Ended.{ended-small}
use Rattle.scanline.proofs.draw.draw_sprites.Goals as goal

pub note_of-requires : goal.note_of-requires
note_of-requires c = grind (arith, ended-small)
