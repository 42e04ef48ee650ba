-- States that are well-formed and whose values fit their types, after a draw and from a snapshot.
use Prim.Native.Nat.{ℕ, ◌≤◌, ◌<◌}
use mathlib.Core.Path.{◌≡◌, refl}
use mathlib.Core.Bool.{true, false}
use mathlib.Core.List.{List, [], ◌∷◌}
use lib.ListN.{length}
use lib.Seq.{length-take-le}
use Rattle.chip.specs.State.{status_to, redraw_to}
use Rattle.chip.specs.Layout.{decoded}
use Rattle.chip.specs.declared.state.Chip.{Chip}
use Rattle.chip.proofs.Laws.Ready.{Ready, ready-changed}
use Rattle.scanline.specs.Notes.{status_after, status_through}
use Rattle.scanline.proofs.Laws.Ready.{status-byte}
use Rattle.frame.specs.Draw.{drawn_state}

-- Status stays a byte, whatever the notes are.
through-byte : (s : ℕ) (notes : List ℕ) → s < 256 → status_through s notes < 256
unfolding status_through
through-byte s [] h = h
through-byte s (n ∷ notes) h = through-byte (status_after s n) notes (status-byte s n h)

module _ {c : Chip} (ready : Ready c) where
  pub ready-drawn : (notes : List ℕ) → Ready (drawn_state c notes)
  ready-drawn notes = ready-changed (redraw_to false) tt tt (ready-changed (status_to (status_through c.status notes)) (through-byte c.status notes ready.fits.status) tt ready)

-- The state that 14 bytes hold with the redraw mark set: it has eight registers, and the mark is set.
module _ (l : List ℕ) (n : ℕ) where
  pub decoded-eight : 8 ≤ length l → length (decoded l true n).registers ≡ 8
  unfolding decoded
  decoded-eight long = length-take-le 8 l long

  pub decoded-redraw : (decoded l true n).redraw ≡ true
  unfolding decoded
  decoded-redraw = refl
