-- `draw_sprites`: the sprites from place k on are drawn.
use Rattle.std.proofs.Common.{take, drop}
use Rattle.sprites.proofs.Laws.Draw.{Over}
use Rattle.sprites.proofs.draw.draw_sprites.Given as goal

abbrev pub invariant-loop-k : goal.invariant-loop-k
invariant-loop-k l = Over l.r (drop l.k (take l.scan.drawn l.scan.sprites)) l.initial.line l.line l.met
