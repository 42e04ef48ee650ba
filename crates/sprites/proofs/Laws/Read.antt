-- What holds of every sprite that a scan reads, where VRAM holds bytes.
use Rattle.std.proofs.Common.{◌≡◌, ℕ, ◌+◌, ◌<◌, ◌≤◌, Bool, true, false, cond, List, [], ◌∷◌, get_or, sym, refl, ◌∙◌, arith}
use borrow.Author.Tests.{eqb-false}
use Rattle.chip.specs.Bits.{bit}
use Rattle.chip.specs.Modes.{large_sprites}
use Rattle.fetches.specs.Fetch.{answer, fetch, value}
use Rattle.sprites.specs.Pixels.{visible}
use Rattle.sprites.specs.Scan.{attribute_address, sprite_pattern_address, sprite_by, sprite_of, scan_of}
use Rattle.sprites.specs.Held.{AsRead}
use Rattle.sprites.specs.declared.sprite.Sprite.{Sprite}
use Rattle.sprites.proofs.Laws.Found.{scan-finds}

column-near : (early : Bool) (x : ℕ) → x < 256 → cond early x (x + 32) ≤ visible 255
column-near true x h = omega arith
column-near false x h = omega arith

by_size : (r : List ℕ) (g : Bool) (n x c left at : ℕ) (vram : List ℕ) → large_sprites r ≡ g → x < 256 → AsRead r (value (cond g (fetch at λ right. answer (sprite_by n x c left right)) (answer (sprite_by n x c left 0))) vram)
unfolding value
by_size r true n x c left at vram large h = record { near = column-near (bit 7 c) x h; left_half = λ small. absurd (eqb-false 0 0 (sym large ∙ small) refl) }
by_size r false n x c left at vram large h = record { near = column-near (bit 7 c) x h; left_half = λ _. omega arith }

pub as_read : (r : List ℕ) (l n y : ℕ) (vram : List ℕ) → get_or vram (attribute_address r n 1) 0 < 256 → AsRead r (value (sprite_of r l n y) vram)
unfolding value sprite_of
as_read r l n y vram h =
    let at = sprite_pattern_address r l y (get_or vram (attribute_address r n 2) 0) in
    by_size r (large_sprites r) n (get_or vram (attribute_address r n 1) 0) (get_or vram (attribute_address r n 3) 0) (get_or vram at 0) (at + 16) vram refl h

abbrev pub EachAsRead : List ℕ → List Sprite → Type 0
EachAsRead r [] = Unit {0}
EachAsRead r (s ∷ l) = AsRead r s × EachAsRead r l

pub found-as-read : (r : List ℕ) (l : ℕ) (m : List ℕ) → ((i : ℕ) → get_or m i 0 < 256) → EachAsRead r (value (scan_of r l) m).sprites
found-as-read r l m bytes = scan-finds r l m (λ f. EachAsRead r f.sprites) (λ e small. tt) (λ n y low f rest. (as_read r l n y m (bytes (attribute_address r n 1)), rest))
