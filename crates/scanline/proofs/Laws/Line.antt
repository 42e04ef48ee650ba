-- What a line shows, put together from its plane and its sprites.
use Prim.Native.Nat.{ℕ}
use mathlib.Core.Path.{◌≡◌, refl, sym, ap, ap₂, ◌∙◌}
use mathlib.Core.Bool.{Bool, true, false, ◌||◌}
use mathlib.Core.List.{List, [], ◌++◌}
use lib.ListN.{get_or}
use Rattle.chip.specs.Lists.{tabulate}
use Rattle.chip.specs.Modes.{mode_of}
use Rattle.chip.specs.declared.mode.Mode.{Mode}
use Rattle.chip.proofs.Laws.Lists.{tabulated, tabulate-same, get_d_tabulate, length-tabulate}
use Rattle.chip.proofs.Laws.Ranges.{none-holds}
use Rattle.fetches.specs.Fetch.{value, fetched, any_dirty}
use Rattle.fetches.proofs.Laws.{value-both, fetched-both, dirty-append}
use Rattle.planes.specs.Cells.{plane_of}
use Rattle.planes.specs.Plane.{plane_colour}
use Rattle.planes.specs.Pixel.{first_non_zero, pixel_of}
use Rattle.planes.specs.Origin.{origin_code, settle}
use Rattle.planes.specs.declared.cell.Cell.{Cell}
use Rattle.sprites.specs.Scan.{Found, scan_of, fifth_of}
use Rattle.sprites.specs.Pixels.{visible, sprite_colours, numbered_colours, reach, coincidence}
use Rattle.sprites.specs.Codes.{first_number}
use Rattle.sprites.proofs.Laws.Codes.{first-number}
use Rattle.scanline.specs.Line.{Row, no_sprites, has_sprites, sprites_of, line_of, settled, colour_at, settled_pixel, pixel_at}
use Rattle.scanline.specs.Notes.{note_by, note_of}
use Rattle.scanline.specs.Calls.{note_at, colours, origins}

module _ (r : List ℕ) (l : ℕ) (vram : List ℕ) where
  abbrev m : Mode
  m = mode_of r

  abbrev row : List Cell → Found → Row
  row cells f = record { cells = cells; found = f }

  pub row_is : value (line_of r l) vram ≡ row (value (plane_of m r l) vram) (value (sprites_of m r l) vram)
  unfolding line_of
  row_is = value-both (plane_of m r l) (sprites_of m r l) row vram

  -- the plane's bytes, and then the sprites'
  pub fetched-line : fetched (line_of r l) vram ≡ fetched (plane_of m r l) vram ++ fetched (sprites_of m r l) vram
  unfolding line_of
  fetched-line = fetched-both (plane_of m r l) (sprites_of m r l) row vram

  pub line-fetches : (map : List ℕ) → any_dirty map (fetched (line_of r l) vram) ≡ (any_dirty map (fetched (plane_of m r l) vram) || any_dirty map (fetched (sprites_of m r l) vram))
  line-fetches map = ap (any_dirty map) fetched-line ∙ dirty-append map (fetched (plane_of m r l) vram) (fetched (sprites_of m r l) vram)

  abbrev pub plane_line : List ℕ
  plane_line = tabulate 256 (λ x. pixel_of r [] (plane_colour m (value (plane_of m r l) vram) x))

  abbrev pub plane_origins : List ℕ
  plane_origins = tabulate 256 (λ x. origin_code (settle r [] (plane_colour m (value (plane_of m r l) vram) x)).origin)

  -- the sprites of the line's mode, where the code has found that mode and whether it has sprites
  module _ {mode : Mode} {shows : Bool} (in-mode : mode ≡ mode_of r) (has : shows ≡ has_sprites mode) where
    pub scanned : shows ≡ true → value (sprites_of m r l) vram ≡ value (scan_of r l) vram
    scanned e = rw (sym in-mode, sym has ∙ e)

    pub without : shows ≡ false → value (sprites_of m r l) vram ≡ no_sprites
    unfolding value
    without e = rw (sym in-mode, sym has ∙ e)

  module _ (f : Found) (found : value (sprites_of m r l) vram ≡ f) where
    pub note-is : note_by (fifth_of f.ended) (coincidence r f.sprites) ≡ note_at r vram l
    unfolding note_of
    note-is = rw (row_is, found)

    -- the sprites over the plane
    pub sprites-over : {one two : List ℕ} → one ≡ plane_line → two ≡ tabulate 256 (λ x. first_non_zero (sprite_colours r f.sprites (visible x)) (get_or one x 0)) → two ≡ colours r vram l
    unfolding colour_at
    sprites-over {one} {two} e t =
        t
        ∙ tabulate-same 256
        (λ x h.
        ap (first_non_zero (sprite_colours r f.sprites (visible x))) (ap (λ (s : List ℕ). get_or s x 0) e ∙ get_d_tabulate 256 _ x h)
        ∙ sym (ap (λ (shown : Row). colour_at r shown x) row_is ∙ ap (λ (g : Found). settled r g (plane_colour m (value (plane_of m r l) vram) x) x) found))

    -- their numbers over the plane's origins
    pub numbers-over : {one two : List ℕ} → one ≡ plane_origins → two ≡ tabulate 256 (λ x. first_number (numbered_colours r f.sprites (visible x)) (get_or one x 0)) → two ≡ origins r vram l
    unfolding pixel_at
    numbers-over {one} {two} e t =
        t
        ∙ tabulate-same 256
        (λ x h.
        ap (first_number (numbered_colours r f.sprites (visible x))) (ap (λ (s : List ℕ). get_or s x 0) e ∙ get_d_tabulate 256 _ x h)
        ∙ first-number (numbered_colours r f.sprites (visible x)) (settle r [] (plane_colour m (value (plane_of m r l) vram) x))
        ∙ sym (ap (λ (shown : Row). origin_code (pixel_at r shown x).origin) row_is ∙ ap (λ (g : Found). origin_code (settled_pixel r g (plane_colour m (value (plane_of m r l) vram) x) x).origin) found))

    -- a line on which no sprite was found
    module _ (bare : f.sprites ≡ []) (no-fifth : fifth_of f.ended ≡ 32) where
      no-coincidence : false ≡ coincidence r f.sprites
      unfolding coincidence
      no-coincidence = rw bare (sym (none-holds reach (λ c. false) (λ k h. refl)))

      pub plain-note : 32 ≡ note_at r vram l
      plain-note = ap₂ note_by (sym no-fifth) no-coincidence ∙ note-is

      pub plain-line : {one : List ℕ} → one ≡ plane_line → one ≡ colours r vram l
      plain-line {one} e = sprites-over e (rw bare (tabulated (ap lib.ListN.length e ∙ length-tabulate 256 _) (λ i h. refl)))

      pub plain-origins : {one : List ℕ} → one ≡ plane_origins → one ≡ origins r vram l
      plain-origins {one} e = numbers-over e (rw bare (tabulated (ap lib.ListN.length e ∙ length-tabulate 256 _) (λ i h. refl)))
