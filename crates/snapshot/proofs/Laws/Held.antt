-- The state and the VRAM that a snapshot of bytes holds.
use Rattle.std.proofs.Common.{◌≡◌, ℕ, ◌-◌, true, List, length, arith, lit<}
use Rattle.chip.specs.State.{Bytes, well_formed}
use Rattle.chip.proofs.Laws.Layout.{fits-decoded}
use Rattle.chip.proofs.Laws.Ready.{Ready}
use Rattle.snapshot.specs.Tests.{state_bytes, vram_bytes, held_state, trailer_at}
use Rattle.snapshot.proofs.Laws.Bytes.{bytes-part}
use Rattle.snapshot.proofs.Laws.Parts.{length-state}

module _ (s : List ℕ) (bytes : Bytes s) where
  pub ready_held : length s ≡ 16406 → well_formed (held_state s) ≡ true → Ready (held_state s)
  unfolding state_bytes
  ready_held whole ok =
      let long = length-state s whole in
      record { fits = fits-decoded (state_bytes s) (bytes-part (trailer_at s - 14) 14 s bytes) (omega arith) true 0 (lit< tt); well-formed = ok }

  pub bytes-held : Bytes (vram_bytes s)
  unfolding vram_bytes
  bytes-held = bytes-part (trailer_at s - 16398) 16384 s bytes
