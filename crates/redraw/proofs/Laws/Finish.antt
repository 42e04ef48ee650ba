-- A line that is finished by its set of sprites.
use Prim.Native.Nat.{ℕ, ◌≤◌}
use mathlib.Core.Path.{◌≡◌, refl, subst}
use mathlib.Core.Bool.{Bool, true, false, cond}
use mathlib.Core.List.{List, []}
use lib.ListN.{get_or, take}
use Rattle.chip.specs.Lists.{tabulate}
use Rattle.chip.specs.Modes.{mode_of}
use Rattle.fetches.specs.Fetch.{answer, value}
use Rattle.planes.specs.Pixel.{first_non_zero}
use Rattle.sprites.specs.Scan.{scan_of, fifth_of}
use Rattle.sprites.specs.Pixels.{visible, sprite_colours, coincidence}
use Rattle.sprites.specs.declared.scan.Scan.{Scan}
use Rattle.sprites.proofs.Laws.Ended.{ended-small}
use Rattle.sets.specs.Sets.{IsSet, FoundBySet}
use Rattle.sets.proofs.Laws.Scan.{empty-set}
use Rattle.scanline.specs.Line.{has_sprites, sprites_of, no_sprites}
use Rattle.scanline.specs.Notes.{note_by}
use Rattle.scanline.specs.Calls.{note_at, colours}
use Rattle.scanline.proofs.Laws.Line.{note-is, sprites-over, plain-note, plain-line}
use Rattle.redraw.specs.Row.{LineSet, plane_line}

module _ (r vram : List ℕ) (l set : ℕ) (s : LineSet r vram l set) where
  -- a set that is not empty is one of a mode with sprites
  pub has_some : (set ≡ 0 → ⊥) → has_sprites (mode_of r) ≡ true
  has_some some = by (has_sprites (mode_of r)) refl
    where
      by : (b : Bool) → has_sprites (mode_of r) ≡ b → b ≡ true
      by true e = refl
      by false e = absurd (some (s.none e))

-- a line whose set is not empty, with what was found by it
module _ {r vram : List ℕ} {l set : ℕ} (s : LineSet r vram l set) (some : set ≡ 0 → ⊥) {scan : Scan} (f : FoundBySet r scan (value (scan_of r l) vram)) where
  pub scanned : value (sprites_of (mode_of r) r l) vram ≡ value (scan_of r l) vram
  scanned = rw (has_some r vram l set s some)

  pub fifth-small : fifth_of scan.ended ≤ 32
  fifth-small = rw f.fifth (ended-small r l vram)

  pub found-note : note_by (fifth_of scan.ended) (coincidence scan.registers (take scan.drawn scan.sprites)) ≡ note_at r vram l
  found-note = rw (f.registers, f.sprites, f.fifth) (note-is r l vram _ scanned)

  pub found-line : {plane : List ℕ} → plane ≡ plane_line r vram l → tabulate 256 (λ x. first_non_zero (sprite_colours scan.registers (take scan.drawn scan.sprites) (visible x)) (get_or plane x 0)) ≡ colours r vram l
  found-line ep = sprites-over r l vram _ scanned ep (rw (f.registers, f.sprites))

-- where the set is empty no sprite was found
module _ {r vram : List ℕ} {l set : ℕ} (s : LineSet r vram l set) (zero : set ≡ 0) where
  none_found : ((value (sprites_of (mode_of r) r l) vram).sprites ≡ []) × (fifth_of (value (sprites_of (mode_of r) r l) vram).ended ≡ 32)
  unfolding value
  none_found = by (has_sprites (mode_of r)) refl
    where
      by : (b : Bool) → has_sprites (mode_of r) ≡ b → ((value (cond b (scan_of r l) (answer no_sprites)) vram).sprites ≡ []) × (fifth_of (value (cond b (scan_of r l) (answer no_sprites)) vram).ended ≡ 32)
      by true e = empty-set r vram l (subst (IsSet r vram l) zero (s.some e))
      by false e = (refl, refl)

  pub empty-note : 32 ≡ note_at r vram l
  empty-note = plain-note r l vram _ refl none_found.0 none_found.1

  pub empty-line : {line : List ℕ} → line ≡ plane_line r vram l → line ≡ colours r vram l
  empty-line e = plain-line r l vram _ refl none_found.0 none_found.1 e

pub ruleset finished = (fifth-small, found-note, empty-note, empty-line)
