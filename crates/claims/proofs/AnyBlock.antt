-- Power-up and reading a snapshot from C replace what the block holds.
use Prim.Native.Nat.{ℕ}
use mathlib.Core.Path.{◌≡◌, refl, ap}
use mathlib.Core.List.{List, [], ◌∷◌}
use lib.ListN.{length}
use borrow.Author.Tests.{eq-eqb, eqb-true}
use Rattle.std.specs.Prelude.{Ok}
use Rattle.chip.specs.State.{vram_size, power_up_state}
use Rattle.chip.specs.Ports.{cleared_vram}
use Rattle.chip.specs.Layout.{block_size, block_of}
use Rattle.chip.specs.Refusals.{is_accepted, vram_test, slice_test}
use Rattle.chip.proofs.Laws.Refusals.{all_pass, all-accepted}
use Rattle.chip.specs.Calls as chip
use Rattle.snapshot.specs.Tests.{vram_bytes, held_state}
use Rattle.snapshot.specs.Calls as snapshot
use Rattle.birdcleft.specs.Calls.{vram_entry, result_through, block_through, list_through, power_up, power_up_vram}
use Rattle.birdcleft.specs.Snapshots.{read_snapshot, read_vram}

-- past the tests at entry
entry : (block vram : List ℕ) → length block ≡ block_size → length vram ≡ vram_size → vram_entry block vram ≡ Ok tt
unfolding vram_entry
entry block vram seventeen long = all-accepted (vram_test vram ∷ slice_test block_size block ∷ []) (eq-eqb _ _ long, (eq-eqb _ _ seventeen, tt))

-- From C with any 17 bytes in the block, power-up of 16,384 bytes of VRAM is accepted; the block then holds the power-up state,
-- and VRAM zeros.
pub power-up-any-block : (block vram : List ℕ) → length block ≡ block_size → length vram ≡ vram_size
    → ((power_up block vram).result ≡ 0) × ((power_up block vram).block ≡ block_of power_up_state) × (power_up_vram block vram ≡ cleared_vram)
unfolding result_through block_through list_through
power-up-any-block block vram seventeen long =
    let accepted : chip.power_up_refusal vram ≡ Ok tt = all-accepted (chip.power_up_tests vram) (eq-eqb _ _ long, tt) in
    rw (entry block vram seventeen long, accepted) (refl, refl, refl)

-- From C with any 17 bytes in the block, reading a snapshot that the direct call accepts is accepted; block and VRAM then hold
-- what the snapshot holds.
pub read-any-block : (block vram s : List ℕ) → length block ≡ block_size → snapshot.read_refusal vram s ≡ Ok tt
    → ((read_snapshot block vram s).result ≡ 0) × ((read_snapshot block vram s).block ≡ block_of (held_state s)) × (read_vram block vram s ≡ vram_bytes s)
unfolding result_through block_through list_through
read-any-block block vram s seventeen accepted =
    let p = all_pass (snapshot.read_tests vram s) (ap is_accepted accepted) in
    rw (entry block vram seventeen (eqb-true _ _ p.0), accepted) (refl, refl, refl)
