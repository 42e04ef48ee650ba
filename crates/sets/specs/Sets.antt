-- Which sprites cover a line, as one number of 32 bits: bit n stands for sprite n.
use Rattle.std.specs.Prelude.{◌≡◌, ℕ, suc, ◌<◌, Bool, not, ◌&&◌, List, length, take, ◌==◌, slice_index}
use Rattle.chip.specs.Bits.{bit}
use Rattle.chip.specs.Ranges.{all_below}
use Rattle.sprites.specs.Shape.{covers}
use Rattle.sprites.specs.Scan.{attribute_address, Found, fifth_of}
use Rattle.sprites.specs.declared.scan.Scan.{Scan}

-- Sprite n's Y.
abbrev pub y_of : List ℕ → List ℕ → ℕ → ℕ
y_of r vram n = slice_index vram (attribute_address r n 0)

-- Whether sprite n stands before the terminator: neither it nor one before it is one.
unfoldable pub before_terminator : List ℕ → List ℕ → ℕ → Bool
before_terminator r vram n = all_below (suc n) (λ m. not (y_of r vram m == 208))

-- The set of line l: the sprites before the terminator that cover it.
abbrev pub IsSet : List ℕ → List ℕ → ℕ → ℕ → Type 0
IsSet r vram l set = (n : ℕ) → n < 32 → bit n set ≡ (before_terminator r vram n && covers r l (y_of r vram n))

-- The set of every line.
pub record Sets (r vram sets : List ℕ) : Type 0 where
  pub long : length sets ≡ 192
  pub line : (l : ℕ) → l < 192 → IsSet r vram l (slice_index sets l)

-- A scan's result as it is found by a set, which does not tell how a scan without a fifth sprite ended.
pub record FoundBySet (r : List ℕ) (s : Scan) (f : Found) : Type 0 where
  pub registers : s.registers ≡ r
  pub sprites : take s.drawn s.sprites ≡ f.sprites
  pub fifth : fifth_of s.ended ≡ fifth_of f.ended
