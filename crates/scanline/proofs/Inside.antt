-- Every byte that a line fetches lies within VRAM.
--
-- Take any registers that obey their masks, whatever mode they choose, a line from 0 to 191, and any bytes as VRAM. Each
-- address in the list of the line's fetches is below 16,384. The list is the one by which a line is due: it has the bytes
-- of the cells, each Y that the scan looks at, and what is read of each sprite that is drawn.
--
-- It rests on one law over mode and table, that each byte of each table that a mode reads lies within VRAM (`inside` of
-- the chip's laws): every address of a cell or a sprite is that of a table's base and a place within the table.
use Prim.Native.Nat.{ℕ, ◌<◌}
use mathlib.Core.Path.{◌≡◌}
use mathlib.Core.Bool.{true}
use mathlib.Core.List.{List, Memᴰ}
use Rattle.chip.specs.Modes.{mode_of}
use Rattle.chip.specs.State.{vram_size, masked, Bytes}
use Rattle.chip.specs.declared.mode.Mode.{Mode}
use Rattle.fetches.specs.Fetch.{fetched}
use Rattle.fetches.proofs.Within.{Within, fetched-within, within-either, within-followed}
use Rattle.planes.specs.Cells.{plane_of}
use Rattle.planes.proofs.Laws.Within.{plane-within}
use Rattle.sprites.proofs.Laws.Within.{scan-within}
use Rattle.scanline.specs.Line.{has_sprites, sprites_of, line_in, line_of}

module _ (r : List ℕ) (ok : masked r ≡ true) (l : ℕ) (h : l < 192) where
  sprites-within : (m : Mode) → Within vram_size (sprites_of m r l)
  unfolding Within
  sprites-within m = within-either vram_size (has_sprites m) _ _ (λ _. scan-within r ok l) (λ _. tt)

  line-within : (m : Mode) → Within vram_size (line_in m r l)
  unfolding Within
  line-within m =
      within-followed vram_size (plane_of m r l) _ (plane-within r ok l h m)
      (λ cells. within-followed vram_size (sprites_of m r l) _ (sprites-within m) (λ f. tt))

pub fetches-inside : (r : List ℕ) → masked r ≡ true → (l : ℕ) → l < 192 → (vram : List ℕ) → Bytes vram → (a : ℕ) → Memᴰ a (fetched (line_of r l) vram) → a < vram_size
unfolding line_of
fetches-inside r ok l h = fetched-within vram_size (line_in (mode_of r) r l) (line-within r ok l h (mode_of r))
