-- The calls on logs from C.
use Rattle.std.specs.Prelude.{ℕ, ◌*◌, List, [], ◌∷◌, ◌++◌, Result, Ok, Err}
use Rattle.chip.specs.TwoBytes.{low_first}
use Rattle.chip.specs.Layout.{block_size}
use Rattle.chip.specs.Refusals.{Outcome, number_of, refusal_of, vram_test, slice_test}
use Rattle.port_log.specs.Calls.{read_refusal, write_refusal}
use Rattle.port_log.specs.Run as direct
use Rattle.chip.specs.declared.refusal.Refusal.{Refusal}
use Rattle.port_log.specs.declared.running.Reached.{Reached}
use Rattle.port_log.specs.declared.running.Ran.{Ran}
use Rattle.birdcleft.specs.Calls.{FromC, through, list_through}

-- How many bytes the slice has that a run reports its two larger numbers in.
abbrev pub outcome_size : ℕ
outcome_size = 4

-- The direct call has no such slice, so its length is tested at entry too.
unfoldable pub run_entry : List ℕ → List ℕ → List ℕ → Outcome
run_entry block vram outcome = refusal_of (vram_test vram ∷ slice_test block_size block ∷ slice_test outcome_size outcome ∷ [])

-- The low byte of the result is the byte found.
abbrev pub run_log : List ℕ → List ℕ → List ℕ → List ℕ → List ℕ → List ℕ → FromC
run_log block vram map line log outcome =
    through (run_entry block vram outcome) block (λ c. direct.answer_of (direct.run_log c vram map line log))

abbrev pub run_vram : List ℕ → List ℕ → List ℕ → List ℕ → List ℕ → List ℕ → List ℕ
run_vram block vram map line log outcome = list_through (run_entry block vram outcome) block (λ c. direct.run_vram c vram map line log) vram

abbrev pub run_map : List ℕ → List ℕ → List ℕ → List ℕ → List ℕ → List ℕ → List ℕ
run_map block vram map line log outcome = list_through (run_entry block vram outcome) block (λ c. direct.run_map c vram map line log) map

abbrev pub run_line : List ℕ → List ℕ → List ℕ → List ℕ → List ℕ → List ℕ → List ℕ
run_line block vram map line log outcome = list_through (run_entry block vram outcome) block (λ c. direct.run_line c vram map line log) line

-- What a run reports: the records done, then the place, each low byte first. Refused, it reports nothing.
abbrev pub outcome_of : Result Reached Refusal → List ℕ → List ℕ
outcome_of (Ok r) outcome = low_first r.done ++ low_first r.place
outcome_of (Err r) outcome = outcome

abbrev pub reported : Ran → List ℕ → List ℕ
reported r outcome = outcome_of r.result outcome

abbrev pub run_outcome : List ℕ → List ℕ → List ℕ → List ℕ → List ℕ → List ℕ → List ℕ
run_outcome block vram map line log outcome =
    list_through (run_entry block vram outcome) block (λ c. reported (direct.run_log c vram map line log) outcome) outcome

-- Reading and writing a log take no block and answer no number but the refusal's.
abbrev pub read_log : List ℕ → List ℕ → ℕ
read_log log records = number_of (read_refusal log records) * 256

abbrev pub write_log : List ℕ → List ℕ → ℕ
write_log records log = number_of (write_refusal records log) * 256
