-- A sprite's row of bits as wide as it is shown: a number of 32 bits, a bit for every column, the highest for the sprite's first.
use lib.Dec.{lit≤}
use Rattle.std.specs.Prelude.{ℕ, ◌+◌, ◌-◌, ◌<◌, ◌≡◌, Bool, ◌&&◌, List, leb, ltb, length, get_or}
use Rattle.chip.specs.Bits.{bit}
use Rattle.chip.specs.Ranges.{any_below}
use Rattle.sprites.specs.Pixels.{hits, reach}
use Rattle.sprites.specs.Held.{no_sprite}
use Rattle.sprites.specs.declared.scan.Scan.{Scan}
use Rattle.sprites.specs.declared.sprite.Sprite.{Sprite}
use Rattle.blit.specs.declared.wide_sprite.WideSprite.{WideSprite}

-- What stands where there is none.
abbrev pub no_wide : WideSprite
no_wide = record { sprite = no_sprite; row = 0; near = lit≤ tt }

abbrev pub WideRow : List ℕ → Sprite → ℕ → Type 0
WideRow r s row = (k : ℕ) → k < 32 → bit (31 - k) row ≡ hits r s (s.first + k)

-- A scan's sprites, each with its wide row.
pub record WideRows (scan : Scan) (wides : List WideSprite) : Type 0 where
  pub long : length wides ≡ 4
  pub own : (k : ℕ) → k < 4 → (get_or wides k no_wide).sprite ≡ get_or scan.sprites k no_sprite
  pub each : (k : ℕ) → k < 4 → WideRow scan.registers (get_or scan.sprites k no_sprite) (get_or wides k no_wide).row

-- Whether a wide row has a set bit at column c, by the row's first column.
unfoldable pub shown_at : ℕ → ℕ → ℕ → Bool
shown_at first row c = leb first c && (ltb c (first + 32) && bit (31 - (c - first)) row)

-- Whether two rows, which begin at columns f and g, have a column in common.
unfoldable pub columns_overlap : ℕ → ℕ → Bool
columns_overlap f g = ltb f (g + 32) && ltb g (f + 32)

-- Whether two rows have a set bit at the same column.
unfoldable pub rows_meet : ℕ → ℕ → ℕ → ℕ → Bool
rows_meet f v g w = any_below reach (λ c. shown_at f v c && shown_at g w c)

abbrev pub wides_meet : WideSprite → WideSprite → Bool
wides_meet v w = rows_meet v.sprite.first v.row w.sprite.first w.row

-- Whether one of them meets one of those before it.
abbrev pub any_meet : List WideSprite → Bool
any_meet l = any_below (length l) (λ k. any_below k (λ i. wides_meet (get_or l i no_wide) (get_or l k no_wide)))
