-- Coincidence leaves no column out. Where VRAM holds bytes, so that X is one, no two sprites that a line draws have a set bit at
-- the same column beyond those that `coincidence` looks at; and at the first and the last of these two sprites can meet.
use Rattle.std.proofs.Common.{◌≡◌, ℕ, ◌-◌, ◌<◌, ◌≤◌, true, false, List, [], ◌∷◌, get_or, refl, arith}
use Rattle.fetches.specs.Fetch.{value}
use Rattle.sprites.specs.Pixels.{hits, meet, reach}
use Rattle.sprites.specs.Scan.{scan_of}
use Rattle.sprites.specs.declared.sprite.Sprite.{Sprite}
use Rattle.sprites.proofs.Laws.Read.{EachAsRead, found-as-read}
use Rattle.sprites.proofs.Laws.Columns.{side-small, hits-right}

each-beyond : (r : List ℕ) (sprites : List Sprite) → EachAsRead r sprites → (c : ℕ) → reach ≤ c → meet r sprites c ≡ false
each-beyond r [] read c h = refl
each-beyond r (s ∷ l) read c h =
    let past = hits-right r s c (omega (arith, side-small r, read.0.near)) in
    rw past (each-beyond r l read.1 c h)

pub none-beyond : (r : List ℕ) (l : ℕ) (vram : List ℕ) → ((i : ℕ) → get_or vram i 0 < 256) → (c : ℕ) → reach ≤ c → meet r (value (scan_of r l) vram).sprites c ≡ false
none-beyond r l vram bytes = each-beyond r (value (scan_of r l) vram).sprites (found-as-read r l vram bytes)

-- Large magnified sprites, and two of colour 0, alike but for their numbers, that have one set bit each.
abbrev pub largest : List ℕ
largest = 0x00 ∷ 0x43 ∷ 0x00 ∷ 0x00 ∷ 0x00 ∷ 0x00 ∷ 0x00 ∷ 0x00 ∷ []

abbrev pub alike : ℕ → ℕ → List Sprite
alike first bits = record { first = first; colour = 0; number = 0; bits = bits } ∷ record { first = first; colour = 0; number = 1; bits = bits } ∷ []

-- The leftmost bit at X 0 with early clock, the rightmost at X 255 without.
pub both_ends : (meet largest (alike 0 0x8000) 0 ≡ true) × (meet largest (alike 287 0x0001) (reach - 1) ≡ true)
unfolding hits
both_ends = (refl, refl)
