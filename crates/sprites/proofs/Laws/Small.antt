-- Every colour is below 16: a sprite's is a nibble.
use Rattle.std.proofs.Common.{ℕ, ◌+◌, ◌<◌, Bool, true, false, cond, List, [], ◌∷◌, get_or, arith, lit<}
use Rattle.chip.specs.Modes.{large_sprites}
use Rattle.fetches.specs.Fetch.{answer, fetch, value}
use Rattle.planes.specs.Pixel.{first_non_zero}
use Rattle.planes.proofs.Laws.Small.{over-small}
use Rattle.sprites.specs.Pixels.{hits, sprite_colours}
use Rattle.sprites.specs.Scan.{attribute_address, sprite_pattern_address, sprite_by, sprite_of, scan_of}
use Rattle.sprites.specs.declared.sprite.Sprite.{Sprite}
use Rattle.sprites.proofs.Laws.Found.{scan-finds}

abbrev EachSmall : List Sprite → Type 0
EachSmall [] = Unit {0}
EachSmall (s ∷ l) = (s.colour < 16) × EachSmall l

by_size : (g : Bool) (n x c left at : ℕ) (vram : List ℕ) → (value (cond g (fetch at λ right. answer (sprite_by n x c left right)) (answer (sprite_by n x c left 0))) vram).colour < 16
unfolding value
by_size true n x c left at vram = omega arith
by_size false n x c left at vram = omega arith

sprite-small : (r : List ℕ) (l n y : ℕ) (vram : List ℕ) → (value (sprite_of r l n y) vram).colour < 16
unfolding value sprite_of
sprite-small r l n y vram =
    let at = sprite_pattern_address r l y (get_or vram (attribute_address r n 2) 0) in
    by_size (large_sprites r) n (get_or vram (attribute_address r n 1) 0) (get_or vram (attribute_address r n 3) 0) (get_or vram at 0) (at + 16) vram

found-small : (r : List ℕ) (l : ℕ) (vram : List ℕ) → EachSmall (value (scan_of r l) vram).sprites
found-small r l vram = scan-finds r l vram (λ f. EachSmall f.sprites) (λ e small. tt) (λ n y low f rest. (sprite-small r l n y vram, rest))

shown-small : (b : Bool) (colour : ℕ) → colour < 16 → cond b colour 0 < 16
shown-small true colour h = h
shown-small false colour h = lit< tt

first_small : (r : List ℕ) (sprites : List Sprite) → EachSmall sprites → (c behind : ℕ) → behind < 16 → first_non_zero (sprite_colours r sprites c) behind < 16
first_small r [] each c behind h = h
first_small r (s ∷ l) each c behind h =
    over-small (cond (hits r s c) s.colour 0) (first_non_zero (sprite_colours r l c) behind) (shown-small (hits r s c) s.colour each.0) (first_small r l each.1 c behind h)

-- the sprites that a scan finds, over a colour below 16
pub sprites-small : (r : List ℕ) (l : ℕ) (vram : List ℕ) (c behind : ℕ) → behind < 16 → first_non_zero (sprite_colours r (value (scan_of r l) vram).sprites c) behind < 16
sprites-small r l vram = first_small r (value (scan_of r l) vram).sprites (found-small r l vram)
