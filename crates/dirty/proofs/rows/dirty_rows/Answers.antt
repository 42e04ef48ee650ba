-- `dirty_rows` meets its contract.
use Rattle.dirty.proofs.Laws.Rows.{no_sprites, clean_scans, scans_added}
use Rattle.dirty.proofs.rows.dirty_rows.Goals as goal

pub returns-then-not-has_sprites : goal.returns-then-not-has_sprites
returns-then-not-has_sprites c = no_sprites _ _ _ c.mode_of-mode.ensures c.plane_rows_dirty-rows.ensures c.has_sprites.ensures c.if-not-has_sprites.true

pub returns-then-sprites_clear : goal.returns-then-sprites_clear
returns-then-sprites_clear c =
    clean_scans _ _ _ c.mode_of-mode.ensures c.plane_rows_dirty-rows.ensures c.has_sprites.ensures c.if-not-has_sprites.false
    (λ l. c.sprites_clear.ensures c.if-sprites_clear.true l c.args.screen.vram.now c.args.screen.holds_bytes)

pub returns : goal.returns
returns c =
    scans_added _ _ _ c.mode_of-mode.ensures c.plane_rows_dirty-rows.ensures c.has_sprites.ensures c.if-not-has_sprites.false
    c.add_marked.array_long c.add_marked.ensures.by_index
