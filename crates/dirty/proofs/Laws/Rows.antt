-- A line's dirty bytes are its plane's and its sprites'.
use Prim.Native.Nat.{ℕ, ◌+◌, ◌*◌, ◌<◌}
use mathlib.Core.Path.{◌≡◌, sym, ap, ◌∙◌}
use mathlib.Core.Bool.{Bool, true, false, ◌||◌}
use mathlib.Core.List.{List}
use lib.ListN.{length, get_or}
use Rattle.chip.specs.Bits.{bit}
use Rattle.chip.specs.Modes.{mode_of}
use Rattle.chip.specs.declared.mode.Mode.{Mode}
use Rattle.chip.proofs.Laws.Ranges.{or-false}
use Rattle.fetches.specs.Fetch.{fetched, any_dirty}
use Rattle.planes.specs.Cells.{plane_of}
use Rattle.sprites.specs.Scan.{scan_of}
use Rattle.scanline.specs.Line.{has_sprites, sprites_of, line_of}
use Rattle.scanline.proofs.Laws.Line.{line-fetches}
use Rattle.dirty.specs.Rows.{RowBits}

module _ (r vram map : List ℕ) where
  abbrev line : ℕ → Bool
  line l = any_dirty map (fetched (line_of r l) vram)

  -- a line with the sprites' answer in place of what they fetch
  with_sprites : (l : ℕ) (sprites : Bool) → any_dirty map (fetched (sprites_of (mode_of r) r l) vram) ≡ sprites → line l ≡ (any_dirty map (fetched (plane_of (mode_of r) r l) vram) || sprites)
  with_sprites l sprites e = line-fetches r l vram map ∙ ap (λ (b : Bool). any_dirty map (fetched (plane_of (mode_of r) r l) vram) || b) e

  -- rows of the plane, in the registers' mode
  module _ {m : Mode} {rows : List ℕ} (is : m ≡ mode_of r) (planes : RowBits rows (λ l. any_dirty map (fetched (plane_of m r l) vram))) {shows : Bool} (has : shows ≡ has_sprites m) where
    alone : ((l : ℕ) → any_dirty map (fetched (sprites_of (mode_of r) r l) vram) ≡ false) → RowBits rows line
    alone none =
        let p : RowBits rows (λ l. any_dirty map (fetched (plane_of (mode_of r) r l) vram)) = rw is at planes in
        record {
          long = p.long;
          line = λ row k hr hk. p.line row k hr hk ∙ sym (with_sprites (8 * row + k) false (none (8 * row + k)) ∙ or-false _);
        }

    some : shows ≡ true → has_sprites (mode_of r) ≡ true
    some e = rw is at (sym has ∙ e)

    -- no sprite is read in a mode without sprites
    pub no_sprites : shows ≡ false → RowBits rows line
    unfolding fetched
    no_sprites e =
        let none : has_sprites (mode_of r) ≡ false = rw is at (sym has ∙ e) in
        alone (λ l. rw none)

    -- and where there are some it is the scan's bytes that are read: no dirty one
    pub clean_scans : shows ≡ true → ((l : ℕ) → any_dirty map (fetched (scan_of r l) vram) ≡ false) → RowBits rows line
    clean_scans e none = alone (λ l. rw (some e) (none l))

    -- or those that were added
    pub scans_added : shows ≡ true → {new : List ℕ} → length new ≡ 24
        → ((row k : ℕ) → row < 24 → k < 8 → bit k (get_or new row 0) ≡ (bit k (get_or rows row 0) || any_dirty map (fetched (scan_of r (8 * row + k)) vram)))
        → RowBits new line
    scans_added e long added =
        let p : RowBits rows (λ l. any_dirty map (fetched (plane_of (mode_of r) r l) vram)) = rw is at planes in
        record {
          long = long;
          line = λ row k hr hk.
              let scan : ℕ → Bool = λ l. any_dirty map (fetched (scan_of r l) vram) in
              added row k hr hk
              ∙ ap (λ (b : Bool). b || scan (8 * row + k)) (p.line row k hr hk)
              ∙ sym (with_sprites (8 * row + k) (scan (8 * row + k)) (rw (some e)));
        }
