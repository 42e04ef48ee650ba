-- Writing and reading a snapshot: the tests that each makes, its answer, and what it leaves in lent slices, accepted or refused.
use Rattle.std.specs.Prelude.{ℕ, true, List, [], ◌∷◌}
use Rattle.chip.specs.State.{with_redraw, with_lost}
use Rattle.chip.specs.Refusals.{Outcome, Test, vram_test, state_test, refusal_of, if_accepted, answered}
use Rattle.chip.specs.declared.state.Chip.{Chip}
use Rattle.chip.specs.declared.refusal.Answer.{Answer}
use Rattle.snapshot.specs.Format.{snapshot_of}
use Rattle.snapshot.specs.Tests.{vram_bytes, held_state, size_test, trailer_test, sum_test, contents_test}

-- The test of what writing alone is given, the list to write to.
abbrev pub output_tests : List ℕ → List Test
output_tests out = size_test out ∷ []

abbrev pub write_tests : Chip → List ℕ → List ℕ → List Test
write_tests c vram out = vram_test vram ∷ state_test c ∷ output_tests out

abbrev pub write_refusal : Chip → List ℕ → List ℕ → Outcome
write_refusal c vram out = refusal_of (write_tests c vram out)

-- Writing hands the state back as it was.
abbrev pub write_snapshot : Chip → List ℕ → List ℕ → Answer
write_snapshot c vram out = answered (write_refusal c vram out) c c 0

abbrev pub written : Chip → List ℕ → List ℕ → List ℕ
written c vram out = if_accepted (write_refusal c vram out) (snapshot_of c vram) out

-- The tests of what reading alone is given, the snapshot.
abbrev pub file_tests : List ℕ → List Test
file_tests s = size_test s ∷ trailer_test s ∷ sum_test s ∷ contents_test s ∷ []

-- Reading does not test the state, which it replaces.
abbrev pub read_tests : List ℕ → List ℕ → List Test
read_tests vram s = vram_test vram ∷ file_tests s

abbrev pub read_refusal : List ℕ → List ℕ → Outcome
read_refusal vram s = refusal_of (read_tests vram s)

abbrev pub read_snapshot : Chip → List ℕ → List ℕ → Answer
read_snapshot c vram s = answered (read_refusal vram s) c (held_state s) 0

abbrev pub read_vram : List ℕ → List ℕ → List ℕ
read_vram vram s = if_accepted (read_refusal vram s) (vram_bytes s) vram

-- A state but for the redraw mark and the count of lost first bytes, which a snapshot does not store: the mark is set, and the
-- count 0. Two states give the same exactly when they differ in these at most.
abbrev pub as_stored : Chip → Chip
as_stored c = with_lost 0 (with_redraw true c)
