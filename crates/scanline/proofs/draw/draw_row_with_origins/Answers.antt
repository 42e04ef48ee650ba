-- `draw_row_with_origins` meets its contract.
use mathlib.Core.Path.{refl, ◌∙◌}
use Rattle.scanline.specs.Line.{no_sprites}
use Rattle.scanline.proofs.Laws.Line.{scanned, without, note-is, sprites-over, numbers-over, plain-note, plain-line, plain-origins}
use Rattle.scanline.proofs.draw.draw_row_with_origins.Goals as goal

pub returns-then-has_sprites-clause-value : goal.returns-then-has_sprites-clause-value
returns-then-has_sprites-clause-value c =
    c.draw_sprites_with_origins.ensures.value ∙ note-is _ _ _ _ (scanned _ _ _ c.mode_of-mode.ensures c.has_sprites.ensures c.if-has_sprites.true)

pub returns-then-has_sprites-clause-line_after : goal.returns-then-has_sprites-clause-line_after
returns-then-has_sprites-clause-line_after c =
    sprites-over _ _ _ _ (scanned _ _ _ c.mode_of-mode.ensures c.has_sprites.ensures c.if-has_sprites.true)
    (rw c.mode_of-mode.ensures at c.draw_plane_with_origins.ensures.line_after) c.draw_sprites_with_origins.ensures.line_after

pub returns-then-has_sprites-clause-origins_after : goal.returns-then-has_sprites-clause-origins_after
returns-then-has_sprites-clause-origins_after c =
    numbers-over _ _ _ _ (scanned _ _ _ c.mode_of-mode.ensures c.has_sprites.ensures c.if-has_sprites.true)
    (rw c.mode_of-mode.ensures at c.draw_plane_with_origins.ensures.origins_after) c.draw_sprites_with_origins.ensures.origins_after

pub returns-clause-value : goal.returns-clause-value
returns-clause-value c =
    plain-note _ _ _ no_sprites (without _ _ _ c.mode_of-mode.ensures c.has_sprites.ensures c.if-has_sprites.false) refl refl

pub returns-clause-line_after : goal.returns-clause-line_after
returns-clause-line_after c =
    plain-line _ _ _ no_sprites (without _ _ _ c.mode_of-mode.ensures c.has_sprites.ensures c.if-has_sprites.false) refl refl
    (rw c.mode_of-mode.ensures at c.draw_plane_with_origins.ensures.line_after)

pub returns-clause-origins_after : goal.returns-clause-origins_after
returns-clause-origins_after c =
    plain-origins _ _ _ no_sprites (without _ _ _ c.mode_of-mode.ensures c.has_sprites.ensures c.if-has_sprites.false) refl refl
    (rw c.mode_of-mode.ensures at c.draw_plane_with_origins.ensures.origins_after)
