-- `point_pixel` meets its contract.
use Rattle.scanline.proofs.Laws.Line.{scanned, without}
use Rattle.point.proofs.Laws.Point.{pixel-over}
use Rattle.point.proofs.pixel.point_pixel.Goals as goal

pub returns-then-has_sprites : goal.returns-then-has_sprites
returns-then-has_sprites c =
    pixel-over _ _ _ _ (scanned _ _ _ c.mode_of-mode.ensures c.has_sprites.ensures c.if-has_sprites.true)
    (rw (rw c.mode_of-mode.ensures at c.plane_at-plane.ensures) at c.sprites_over.ensures)

pub returns : goal.returns
returns c =
    pixel-over _ _ _ _ (without _ _ _ c.mode_of-mode.ensures c.has_sprites.ensures c.if-has_sprites.false)
    (rw c.mode_of-mode.ensures at c.plane_at-plane.ensures)
