-- Status after a line, in a state that is well-formed and fits its types.
use Prim.Native.Nat.{ℕ, ◌+◌, ◌*◌, ◌/◌, ◌%◌, ◌<◌}
use native.Mathlib.Omega.{arith}
use mathlib.Core.Bool.{not, ◌&&◌}
use lib.Bits.{or_lt}
use lib.Dec.{ltb, lit<}
use borrow.Author.Tests.{ltb-true}
use Rattle.chip.specs.Bits.{bit}
use Rattle.chip.specs.State.{status_to, with_status}
use Rattle.chip.specs.declared.state.Chip.{Chip}
use Rattle.chip.proofs.Laws.Ready.{Ready, ready-changed, either-byte}
use Rattle.scanline.specs.Notes.{with_fifth, status_after}

-- Status stays a byte, whatever the note is.
pub status-byte : (s n : ℕ) → s < 256 → status_after s n < 256
unfolding status_after
status-byte s n h = either-byte (bit 6 n) _ _ (λ e. or_lt 8 (with_fifth s n) 32 fifth (lit< tt)) fifth
  where
    fifth : with_fifth s n < 256
    fifth = either-byte (ltb (n % 64) 32) _ _ (λ e. let low = ltb-true (n % 64) 32 e in either-byte (not (bit 6 s) && not (bit 7 s)) _ _ (λ free. or_lt 8 (s / 32 * 32 + n % 64) 64 (omega arith) (lit< tt)) h) h

module _ {c : Chip} (ready : Ready c) where
  pub ready-line : (note : ℕ) → Ready (with_status (status_after c.status note) c)
  ready-line note = ready-changed (status_to (status_after c.status note)) (status-byte c.status note ready.fits.status) tt ready
