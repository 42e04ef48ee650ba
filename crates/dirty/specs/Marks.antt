-- What of the sprites is dirty, before a line is looked at by itself.
use Rattle.std.specs.Prelude.{ℕ, ◌+◌, ◌*◌, ◌<◌, ◌≡◌, Bool, false, List}
use Rattle.chip.specs.Bits.{bit}
use Rattle.chip.specs.Map.{is_dirty}
use Rattle.chip.specs.Tables.{attributes, sprite_patterns, base}
use Rattle.chip.specs.declared.mode.Mode.TheVariants.{GraphicsI}
use Rattle.fetches.specs.Fetch.{fetched, any_dirty}
use Rattle.sprites.specs.Scan.{scan_of}

-- Where the sprites' two tables begin.
abbrev pub attributes_at : List ℕ → ℕ
attributes_at r = base GraphicsI attributes r

abbrev pub patterns_at : List ℕ → ℕ
patterns_at r = base GraphicsI sprite_patterns r

-- No byte of a part of VRAM is dirty: so many bytes from an address on.
abbrev pub CleanPart : List ℕ → ℕ → ℕ → Type 0
CleanPart map at size = (i : ℕ) → i < size → is_dirty map (at + i) ≡ false

-- No sprite's Y is dirty, with the attribute table at an address.
abbrev pub CleanYs : List ℕ → ℕ → Type 0
CleanYs map at = (n : ℕ) → n < 32 → is_dirty map (at + (4 * n + 0)) ≡ false

-- Neither a Y nor a byte of the sprite patterns is dirty.
pub record Quiet (r map : List ℕ) : Type 0 where
  pub ys : CleanYs map (attributes_at r)
  pub patterns : CleanPart map (patterns_at r) 2048

-- Bit n is set where X, name or colour byte of sprite n is dirty. (A bit too many costs time only.)
abbrev pub Marks : List ℕ → ℕ → ℕ → Type 0
Marks map at marks = (n k : ℕ) → n < 32 → 0 < k → k < 4 → bit n marks ≡ false → is_dirty map (at + (4 * n + k)) ≡ false

-- Whether the scan of line l fetches a dirty byte.
abbrev pub scan_dirty : List ℕ → List ℕ → List ℕ → ℕ → Bool
scan_dirty r vram map l = any_dirty map (fetched (scan_of r l) vram)
