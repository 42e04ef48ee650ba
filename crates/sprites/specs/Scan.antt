-- The scan of a line: what it reads, which sprites it finds to draw, and how it ends.
use Rattle.std.specs.Prelude.{ℕ, zero, suc, ◌+◌, ◌-◌, ◌*◌, ◌%◌, cond, List, [], ◌∷◌, ◌==◌}
use Rattle.chip.specs.Bits.{bit}
use Rattle.chip.specs.Modes.{large_sprites, magnified}
use Rattle.chip.specs.Tables.{attributes, sprite_patterns, base}
use Rattle.chip.specs.declared.mode.Mode.TheVariants.{GraphicsI}
use Rattle.fetches.specs.Fetch.{Fetch, answer, fetch, followed}
use Rattle.sprites.specs.Shape.{scaled, row_offset, covers}
use Rattle.sprites.specs.declared.scan.Ended.{Ended}
use Rattle.sprites.specs.declared.scan.Ended.TheVariants.{Terminator, Fifth, All}
use Rattle.sprites.specs.declared.sprite.Sprite.{Sprite}

-- Attribute k of sprite n (Y, X, name, colour byte). The sprites' two tables begin at the same place in every mode, so that
-- any mode with sprites can stand here.
abbrev pub attribute_address : List ℕ → ℕ → ℕ → ℕ
attribute_address r n k = base GraphicsI attributes r + (4 * n + k)

-- The pattern byte of a name on line l, for a sprite at y. With size the name's low two bits count as 0.
unfoldable pub sprite_pattern_address : List ℕ → ℕ → ℕ → ℕ → ℕ
sprite_pattern_address r l y name =
    base GraphicsI sprite_patterns r + (8 * (name - cond (large_sprites r) (name % 4) 0) + scaled (magnified r) (row_offset l y))

-- The first column, counted from 32 left of the screen: X, less 32 when the colour byte has hex 80.
abbrev pub first_column : ℕ → ℕ → ℕ
first_column x c = cond (bit 7 c) x (x + 32)

-- Drawn sprite n. The low nibble of its colour byte is the colour; the left half's bits stand above the right half's.
abbrev pub sprite_by : ℕ → ℕ → ℕ → ℕ → ℕ → Sprite
sprite_by n x c left right = record { first = first_column x c; colour = c % 16; number = n; bits = left * 256 + right }

-- What is read of a sprite that is drawn: X, name, colour byte and one pattern byte, or with size two, the right half 16 bytes later.
unfoldable pub sprite_of : List ℕ → ℕ → ℕ → ℕ → Fetch Sprite
sprite_of r l n y =
    fetch (attribute_address r n 1) λ x.
    fetch (attribute_address r n 2) λ name.
    fetch (attribute_address r n 3) λ c.
    fetch (sprite_pattern_address r l y name) λ left.
    cond (large_sprites r)
    (fetch (sprite_pattern_address r l y name + 16) λ right. answer (sprite_by n x c left right))
    (answer (sprite_by n x c left 0))

-- What a scan finds: the sprites to draw, lowest number first, and how it ended.
pub record Found : Type 0 where
  pub sprites : List Sprite
  pub ended : Ended

abbrev pub found : Sprite → Found → Found
found s f = record { sprites = s ∷ f.sprites; ended = f.ended }

-- Sprite n with Y = y, when k sprites are drawn already: the terminator ends the scan, whether or not it covers the line; so
-- does the fifth covering sprite; the first four are drawn; and the scan goes on by next.
abbrev pub seen : List ℕ → ℕ → ℕ → ℕ → ℕ → (ℕ → Fetch Found) → Fetch Found
seen r l n k y next =
    cond (y == 208)
    (answer (record { sprites = []; ended = Terminator }))
    (cond (covers r l y)
    (cond (k == 4)
    (answer (record { sprites = []; ended = Fifth n }))
    (followed (sprite_of r l n y) λ s. followed (next (suc k)) λ f. answer (found s f)))
    (next k))

-- The scan of the last sprites, from number n on, when k are drawn already.
unfoldable pub scan_from : List ℕ → ℕ → ℕ → ℕ → ℕ → Fetch Found
scan_from r l zero n k = answer (record { sprites = []; ended = All })
scan_from r l (suc left) n k = fetch (attribute_address r n 0) λ y. seen r l n k y (scan_from r l left (suc n))

-- The scan goes up from sprite 0 to sprite 31.
abbrev pub scan_of : List ℕ → ℕ → Fetch Found
scan_of r l = scan_from r l 32 0 0

-- The fifth covering sprite's number, or 32 if there is none.
abbrev pub fifth_of : Ended → ℕ
fifth_of Terminator = 32
fifth_of (Fifth n) = n
fifth_of All = 32
