-- The theorems about snapshots: the two round trips, and the trailer at power-up.
use Rattle.std.proofs.Common.{◌≡◌, ℕ, true, List, [], ◌∷◌, length, drop, refl, ap, ◌∙◌}
use Rattle.chip.specs.State.{Bytes, Fits, well_formed, power_up_state}
use Rattle.chip.specs.Ports.{cleared_vram}
use Rattle.chip.specs.Layout.{decoded}
use Rattle.chip.specs.declared.state.Chip.{Chip}
use Rattle.std.specs.Prelude.{Ok}
use Rattle.chip.proofs.Laws.Refusals.{the-new, the-value, value-given}
use Rattle.chip.proofs.Laws.Layout.{decoded-encoded}
use Rattle.snapshot.specs.Format.{snapshot_of}
use Rattle.snapshot.specs.Tests.{trailer_at, vram_bytes, held_state}
use Rattle.snapshot.specs.Calls.{write_refusal, write_snapshot, written, read_refusal, read_snapshot, read_vram, as_stored}
use Rattle.snapshot.proofs.Laws.Bytes.{bytes-snapshot}
use Rattle.snapshot.proofs.Laws.Parts.{length-vram}
use Rattle.snapshot.proofs.Laws.Refusals.{write-accepted, read-accepted, accepted-readable}
use Rattle.snapshot.proofs.Laws.Written.{readable, state-back, vram-back}
use Rattle.snapshot.proofs.Laws.Accepted.{file-back}

-- Take any well-formed state whose values fit their types, any 16,384 bytes of VRAM, and a slice of 16,406 to write to,
-- whatever it holds; let the reader have any state and any VRAM of its own. Then writing is accepted, what it writes are
-- bytes, reading them is accepted, and reading gives that VRAM back, and that state but for the redraw mark,
-- which is set, and the count of lost first bytes, which is 0.
pub written_read : (c : Chip) → Fits c → well_formed c ≡ true
    → (vram : List ℕ) → Bytes vram → length vram ≡ 16384
    → (out : List ℕ) → length out ≡ 16406
    → (other : Chip) (old : List ℕ) → length old ≡ 16384
    → let file = written c vram out in
    ((write_snapshot c vram out).result ≡ Ok 0)
    × Bytes file
    × ((read_snapshot other old file).result ≡ Ok 0)
    × (read_vram old file ≡ vram)
    × ((read_snapshot other old file).chip ≡ as_stored c)
written_read c fits ok vram bytes long out room other old long-old =
    let writes : write_refusal c vram out ≡ Ok tt = write-accepted c vram out long room ok in
    let file : written c vram out ≡ snapshot_of c vram = the-new writes (snapshot_of c vram) out in
    let reads : read_refusal old (snapshot_of c vram) ≡ Ok tt = read-accepted old (snapshot_of c vram) (readable c fits.eight vram long ok old long-old) in
    rw file (
      the-value writes 0,
      bytes-snapshot c vram fits bytes,
      the-value reads 0,
      the-new reads (vram_bytes (snapshot_of c vram)) old ∙ vram-back c fits.eight vram long,
      the-new reads (held_state (snapshot_of c vram)) other
          ∙ ap (λ (b : List ℕ). decoded b true 0) (state-back c fits.eight vram long)
          ∙ decoded-encoded c fits.eight true 0,
    )

-- Take any file of bytes that reading accepts, whatever state and VRAM the reader had, and a slice of 16,406 to write to,
-- whatever it holds. Then writing the state and the VRAM that reading gave is accepted, and gives the file back, byte for byte.
pub read-written : (file : List ℕ) → Bytes file
    → (other : Chip) (old : List ℕ) → (read_snapshot other old file).result ≡ Ok 0
    → (out : List ℕ) → length out ≡ 16406
    → let c = (read_snapshot other old file).chip in
    let vram = read_vram old file in
    ((write_snapshot c vram out).result ≡ Ok 0) × (written c vram out ≡ file)
read-written file bytes other old reads out room =
    let accepted : read_refusal old file ≡ Ok tt = value-given (read_refusal old file) 0 reads in
    let r = accepted-readable old file accepted in
    let held : Chip = held_state file in
    let state : (read_snapshot other old file).chip ≡ held = the-new accepted held other in
    let vram : read_vram old file ≡ vram_bytes file = the-new accepted (vram_bytes file) old in
    let writes : write_refusal held (vram_bytes file) out ≡ Ok tt = write-accepted held (vram_bytes file) out (length-vram file r.whole) room r.holds in
    rw (state, vram) (the-value writes 0, the-new writes (snapshot_of held (vram_bytes file)) out ∙ file-back file bytes r)

-- The snapshot of the power-up state and cleared VRAM ends in the trailer 56 31 0E 00 0E 40 E3 00.
pub power-up-trailer :
    let file = snapshot_of power_up_state cleared_vram in
    drop (trailer_at file) file ≡ 0x56 ∷ 0x31 ∷ 0x0E ∷ 0x00 ∷ 0x0E ∷ 0x40 ∷ 0xE3 ∷ 0x00 ∷ []
unfolding snapshot_of
power-up-trailer = refl
