-- `sprites_at`: the sprites to come over the pixel so far are all of them over what stands behind.
use Rattle.std.proofs.Common.{◌≡◌}
use Rattle.planes.specs.Origin.{frontmost}
use Rattle.sprites.specs.Pixels.{visible, numbered_colours}
use Rattle.sprites.proofs.column.sprites_at.Given as goal

abbrev pub invariant-loop-s : goal.invariant-loop-s
invariant-loop-s l =
    frontmost (numbered_colours l.fn.scan.registers l.s-iterator.iter.rest.now (visible l.x)) l.pixel
    ≡ frontmost (numbered_colours l.fn.scan.registers l.initial.s-iterator.iter.rest.now (visible l.x)) l.initial.pixel
