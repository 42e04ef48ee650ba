-- Codes of origins: sprites' numbers over codes, the colours that go with them, and how large they are.
use Rattle.std.proofs.Common.{◌≡◌, ℕ, ◌+◌, ◌%◌, ◌<◌, Bool, true, false, cond, eqb, List, [], ◌∷◌, get_or, refl, ap, arith, lit<}
use Rattle.chip.specs.Modes.{large_sprites, external_video}
use Rattle.chip.specs.State.{register}
use Rattle.fetches.specs.Fetch.{answer, fetch, value}
use Rattle.planes.specs.Origin.{origin_code, SpriteColour, in_front, frontmost, behind_backdrop, pixel_behind, settle, colours_in}
use Rattle.planes.specs.declared.origin.Origin.{Origin}
use Rattle.planes.specs.declared.origin.Origin.TheVariants.{Sprite, Pattern, Backdrop}
use Rattle.planes.specs.declared.origin.Pixel.{Pixel}
use Rattle.sprites.specs.Pixels.{hits, sprite_colours, numbered_colours}
use Rattle.sprites.specs.Scan.{attribute_address, sprite_pattern_address, sprite_by, sprite_of, scan_of}
use Rattle.sprites.specs.Codes.{first_number}
use Rattle.sprites.specs.declared.sprite.Sprite as sprite
use Rattle.sprites.proofs.Laws.Found.{scan-finds}

abbrev pub Sprites : Type 0
Sprites = List sprite.Sprite

-- the code of a pixel in front of another
code-in-front : (c : ℕ) (o : Origin) (p : Pixel) → origin_code (in_front c o p).origin ≡ cond (eqb c 0) (origin_code p.origin) (origin_code o)
code-in-front c o p = by (eqb c 0)
  where
    by : (b : Bool) → origin_code (cond b p (record { colour = c; origin = o })).origin ≡ cond b (origin_code p.origin) (origin_code o)
    by true = refl
    by false = refl

pub first-number : (s : List SpriteColour) (p : Pixel) → first_number s (origin_code p.origin) ≡ origin_code (frontmost s p).origin
first-number [] p = refl
first-number (s ∷ l) p = rw (code-in-front s.colour (Sprite s.number) (frontmost l p), first-number l p)

-- the numbers left out
pub without-numbers : (r : List ℕ) (l : Sprites) (c : ℕ) → colours_in (numbered_colours r l c) ≡ sprite_colours r l c
without-numbers r [] c = refl
without-numbers r (s ∷ l) c = ap (λ (k : List ℕ). cond (hits r s c) s.colour 0 ∷ k) (without-numbers r l c)

-- Every number that a scan finds is below 32.
abbrev pub EachBelow : Sprites → Type 0
EachBelow [] = Unit {0}
EachBelow (s ∷ l) = (s.number < 32) × EachBelow l

by_size : (g : Bool) (n x c left at : ℕ) (vram : List ℕ) → (value (cond g (fetch at λ right. answer (sprite_by n x c left right)) (answer (sprite_by n x c left 0))) vram).number ≡ n
unfolding value
by_size true n x c left at vram = refl
by_size false n x c left at vram = refl

number_read : (r : List ℕ) (l n y : ℕ) (vram : List ℕ) → (value (sprite_of r l n y) vram).number ≡ n
unfolding value sprite_of
number_read r l n y vram =
    let at = sprite_pattern_address r l y (get_or vram (attribute_address r n 2) 0) in
    by_size (large_sprites r) n (get_or vram (attribute_address r n 1) 0) (get_or vram (attribute_address r n 3) 0) (get_or vram at 0) (at + 16) vram

pub found_below : (r : List ℕ) (l : ℕ) (vram : List ℕ) → EachBelow (value (scan_of r l) vram).sprites
found_below r l vram = scan-finds r l vram (λ f. EachBelow f.sprites) (λ e small. tt) (λ n y low f rest. (rw (number_read r l n y vram) low, rest))

-- Every code is at most 35.
either-code : (b : Bool) (p q : Pixel) → origin_code p.origin < 36 → origin_code q.origin < 36 → origin_code (cond b p q).origin < 36
either-code true p q hp hq = hp
either-code false p q hp hq = hq

behind-code : (r : List ℕ) → origin_code (pixel_behind r).origin < 36
behind-code r = either-code (eqb (register 7 r % 16) 0) (behind_backdrop (external_video r)) (record { colour = register 7 r % 16; origin = Backdrop }) (by (external_video r)) (lit< tt)
  where
    by : (e : Bool) → origin_code (behind_backdrop e).origin < 36
    by true = lit< tt
    by false = lit< tt

code-over : (r : List ℕ) (l : Sprites) → EachBelow l → (c plane : ℕ) → origin_code (settle r (numbered_colours r l c) plane).origin < 36
code-over r [] below c plane = either-code (eqb plane 0) (pixel_behind r) (record { colour = plane; origin = Pattern }) (behind-code r) (lit< tt)
code-over r (s ∷ l) below c plane =
    let colour = cond (hits r s c) s.colour 0 in
    let low = below.0 in
    either-code (eqb colour 0) (settle r (numbered_colours r l c) plane) (record { colour = colour; origin = Sprite s.number }) (code-over r l below.1 c plane) (omega arith)

pub code-small : (r : List ℕ) (l : ℕ) (vram : List ℕ) (c plane : ℕ) → origin_code (settle r (numbered_colours r (value (scan_of r l) vram).sprites c) plane).origin < 36
code-small r l vram = code-over r (value (scan_of r l) vram).sprites (found_below r l vram)

pub code-small-plain : (r : List ℕ) (plane : ℕ) → origin_code (settle r [] plane).origin < 36
code-small-plain r plane = code-over r [] tt 0 plane
