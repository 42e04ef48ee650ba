-- Eight bytes as one number of 64 bits, a word: byte 0 is the lowest, and shows as the leftmost pixel.
use Rattle.std.specs.Prelude.{ℕ, ◌-◌, ◌*◌, ◌/◌, ◌%◌, ◌^◌, ◌<◌, ◌≡◌, Bool, cond, List, length, get_or}
use Rattle.chip.specs.Bits.{bit}

-- byte k of a word
unfoldable pub byte_of : ℕ → ℕ → ℕ
byte_of k w = w / 2 ^ (8 * k) % 2 ^ 8

-- All eight bytes are this one.
abbrev pub Repeated : ℕ → ℕ → Type 0
Repeated byte w = (k : ℕ) → k < 8 → byte_of k w ≡ byte

-- What a pattern byte masks: byte k is 255 where pixel k, from the left, is a 1 bit, and 0 where it is a 0 bit.
abbrev pub IsMask : ℕ → ℕ → Type 0
IsMask pattern w = (k : ℕ) → k < 8 → byte_of k w ≡ cond (bit (7 - k) pattern) 255 0

-- The mask of every pattern byte.
pub record Masks (masks : List ℕ) : Type 0 where
  pub long : length masks ≡ 256
  pub mask : (pattern : ℕ) → pattern < 256 → IsMask pattern (get_or masks pattern 0)

-- The masks of the patterns that only the lowest b bits are set in, the first in the table.
pub record MasksOf (b : ℕ) (masks : List ℕ) : Type 0 where
  pub long : length masks ≡ 256
  pub mask : (pattern : ℕ) → pattern < 2 ^ b → IsMask pattern (get_or masks pattern 0)

-- Byte by byte one of two words: of one where the mask has 255, and of the other where it has 0.
abbrev pub Blended : ℕ → ℕ → ℕ → ℕ → Type 0
Blended mask set clear w =
    (k : ℕ) → k < 8 → (b : Bool) → byte_of k mask ≡ cond b 255 0 → byte_of k w ≡ cond b (byte_of k set) (byte_of k clear)
