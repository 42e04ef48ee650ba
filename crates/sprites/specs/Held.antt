-- The four places that code has for the sprites of a scan.
use Rattle.std.specs.Prelude.{◌≡◌, ℕ, ◌%◌, ◌<◌, ◌≤◌, false, List, length, slice_index_or}
use Rattle.chip.specs.Modes.{large_sprites}
use Rattle.sprites.specs.Pixels.{visible}
use Rattle.sprites.specs.declared.sprite.Sprite.{Sprite}

-- What stands where no sprite was found.
abbrev pub no_sprite : Sprite
no_sprite = record { first = 0; colour = 0; number = 0; bits = 0 }

-- What holds of every sprite that a scan reads: it begins at most at the screen's column 255, and without size its right half
-- is empty.
pub record AsRead (r : List ℕ) (s : Sprite) : Type 0 where
  pub near : s.first ≤ visible 255
  pub left_half : large_sprites r ≡ false → s.bits % 256 ≡ 0

-- What code relies on that goes through the sprites, which were read under these registers.
pub record Held (r : List ℕ) (sprites : List Sprite) (drawn : ℕ) : Type 0 where
  pub room : length sprites ≡ 4
  pub few : drawn ≤ 4
  pub as_read : (k : ℕ) → k < 4 → AsRead r (slice_index_or sprites k no_sprite)
