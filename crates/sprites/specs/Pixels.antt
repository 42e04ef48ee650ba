-- The pixels of drawn sprites, and their coincidence. Columns are counted from 32 left of the screen.
use Rattle.std.specs.Prelude.{ℕ, ◌+◌, ◌-◌, Bool, false, cond, ◌&&◌, ◌||◌, List, [], ◌∷◌, nat_le, nat_lt}
use Rattle.chip.specs.Bits.{bit}
use Rattle.chip.specs.Modes.{magnified}
use Rattle.chip.specs.Ranges.{any_below}
use Rattle.planes.specs.Origin.{SpriteColour}
use Rattle.sprites.specs.Shape.{side, scaled}
use Rattle.sprites.specs.declared.sprite.Sprite.{Sprite}

-- Where the screen's column x stands.
abbrev pub visible : ℕ → ℕ
visible x = x + 32

-- Whether a sprite has a set pattern bit at a column.
unfoldable pub hits : List ℕ → Sprite → ℕ → Bool
hits r s c =
    nat_le s.first c && (nat_lt c (s.first + side r) && bit (15 - scaled (magnified r) (c - s.first)) s.bits)

-- The sprites' colours at a column, lowest number first: 0 where a sprite has no set bit.
abbrev pub sprite_colours : List ℕ → List Sprite → ℕ → List ℕ
sprite_colours r [] c = []
sprite_colours r (s ∷ l) c = cond (hits r s c) s.colour 0 ∷ sprite_colours r l c

-- The same with the sprites' numbers.
abbrev pub numbered_colours : List ℕ → List Sprite → ℕ → List SpriteColour
numbered_colours r [] c = []
numbered_colours r (s ∷ l) c = record { number = s.number; colour = cond (hits r s c) s.colour 0 } ∷ numbered_colours r l c

-- Whether one of the sprites has a set bit at a column, and whether two of them have, of whatever colour.
abbrev pub any_hits : List ℕ → List Sprite → ℕ → Bool
any_hits r [] c = false
any_hits r (s ∷ l) c = hits r s c || any_hits r l c

abbrev pub meet : List ℕ → List Sprite → ℕ → Bool
meet r [] c = false
meet r (s ∷ l) c = hits r s c && any_hits r l c || meet r l c

-- How many columns sprites can reach: from 32 left of the screen, the first with an early clock, to the last of one that is 32
-- wide and begins at the screen's column 255. On the screen's count these are -32 to 286.
abbrev pub reach : ℕ
reach = 319

-- Coincidence: two drawn sprites have a set bit at the same column, on the screen or beside it.
unfoldable pub coincidence : List ℕ → List Sprite → Bool
coincidence r sprites = any_below reach (λ c. meet r sprites c)
