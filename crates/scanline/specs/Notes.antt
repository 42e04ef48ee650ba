-- A line's note, and status after it and after several.
use Rattle.std.specs.Prelude.{ℕ, ◌+◌, ◌*◌, ◌/◌, ◌%◌, Bool, cond, not, ◌&&◌, List, [], ◌∷◌, ltb}
use Rattle.chip.specs.Bits.{bit, set_bit}
use Rattle.sprites.specs.Scan.{fifth_of}
use Rattle.sprites.specs.Pixels.{coincidence}
use Rattle.scanline.specs.Line.{Row}

-- The note's low six bits number the fifth sprite, with 32 for none; bit 6 tells of coincidence.
abbrev pub note_by : ℕ → Bool → ℕ
note_by fifth met = fifth + cond met 64 0

unfoldable pub note_of : List ℕ → Row → ℕ
note_of r row = note_by (fifth_of row.found.ended) (coincidence r row.found.sprites)

-- The number of a fifth sprite is latched, and 5S (hex 40) set, unless 5S or F (80) is on already.
abbrev pub latched : ℕ → ℕ → ℕ
latched s n = cond (not (bit 6 s) && not (bit 7 s)) (set_bit 6 (s / 32 * 32 + n)) s

-- Any byte can be read back as a note: low six bits below 32 are the number of a fifth sprite, others mean none.
abbrev pub with_fifth : ℕ → ℕ → ℕ
with_fifth s note = cond (ltb (note % 64) 32) (latched s (note % 64)) s

-- Coincidence sets C (hex 20).
abbrev pub with_coincidence : ℕ → ℕ → ℕ
with_coincidence s note = cond (bit 6 note) (set_bit 5 s) s

-- Status after a line with this note.
unfoldable pub status_after : ℕ → ℕ → ℕ
status_after s note = with_coincidence (with_fifth s note) note

-- Status updated by each note, in order.
unfoldable pub status_through : ℕ → List ℕ → ℕ
status_through s [] = s
status_through s (n ∷ l) = status_through (status_after s n) l
