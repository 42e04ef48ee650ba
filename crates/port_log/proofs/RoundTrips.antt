-- The theorems about logs: the two round trips, what makes a log good, the numbers of the operations, and the empty log.
use Prim.Native.Nat.{ℕ, zero, suc, ◌+◌, ◌≤◌}
use native.Mathlib.Omega.{arith}
use mathlib.Core.Path.{◌≡◌, refl, ap, ◌∙◌}
use mathlib.Core.Bool.{true}
use mathlib.Core.List.{List, [], ◌∷◌}
use lib.ListN.{length}
use Rattle.chip.specs.State.{Bytes, well_formed}
use Rattle.chip.specs.Refusals.{Outcome, refusal_of, giving}
use Rattle.chip.specs.declared.state.Chip.{Chip}
use Rattle.std.specs.Prelude.{Ok}
use Rattle.chip.proofs.Laws.Refusals.{the-new}
use Rattle.port_log.specs.Format.{log_of, record_bytes}
use Rattle.port_log.specs.Records.{operation_number, operation_of, records_of, all_allowed}
use Rattle.port_log.specs.Tests.{size_allowed, distance_right, log_sum_right, log_tests}
use Rattle.port_log.specs.Run.{reached_of, end_of, run_log}
use Rattle.port_log.specs.Calls.{read_refusal, read_records, write_refusal, written_log}
use Rattle.port_log.specs.declared.records.Operation.{Operation}
use Rattle.port_log.specs.declared.records.Operation.TheVariants.{DataWrite, ControlWrite, DataRead, StatusRead, DrawLine, EndOfDisplay, Reset}
use Rattle.port_log.proofs.Laws.Form.{length-record-bytes, sized}
use Rattle.port_log.proofs.Laws.Refusals.{Writable, write-accepted, accepted-writable, read-accepted, accepted-readable, good-accepted, accepted-good}
use Rattle.port_log.proofs.Laws.Written.{length-log, records-back, good, bytes-log}
use Rattle.port_log.proofs.Laws.Accepted.{log_back}
use Rattle.port_log.proofs.Laws.Tested.{log-decides}

-- Writing is accepted exactly where the record bytes are of even length, at most 40,000 and hold allowed records alone, and the
-- slice for the log is four bytes longer.
pub accepted-writes : (records out : List ℕ) →
    (Writable records out → write_refusal records out ≡ Ok tt) × (write_refusal records out ≡ Ok tt → Writable records out)
accepted-writes records out = (write-accepted records out, accepted-writable records out)

-- Take any record bytes, and a slice to write to, whatever it holds, such that writing is accepted; and let the reader have a
-- slice of the record bytes' length, whatever it holds. Then what is written are bytes, reading them is accepted, and reading
-- gives the record bytes back.
pub written_read : (records : List ℕ) → Bytes records
    → (out : List ℕ) → Writable records out
    → (old : List ℕ) → length old ≡ length records
    → let log = written_log records out in
    (write_refusal records out ≡ Ok tt)
    × Bytes log
    × (read_refusal log old ≡ Ok tt)
    × (read_records log old ≡ records)
written_read records bytes out w old long =
    let writes : write_refusal records out ≡ Ok tt = write-accepted records out w in
    let log : written_log records out ≡ log_of records = the-new writes (log_of records) out in
    let room : length (log_of records) ≡ length old + 4 = omega (arith, length-log records) in
    let reads : read_refusal (log_of records) old ≡ Ok tt = read-accepted (log_of records) old (record { room = room; good = good records w }) in
    rw log (
      writes,
      bytes-log records w bytes,
      reads,
      the-new reads (record_bytes (log_of records)) old ∙ records-back records,
    )

-- Take any log of bytes that reading accepts, whatever stands in the reader's slice, and a slice of the log's length to write
-- to, whatever it holds. Then writing what reading left is accepted, and gives the log back, byte for byte.
pub read-written : (log : List ℕ) → Bytes log
    → (old : List ℕ) → read_refusal log old ≡ Ok tt
    → (out : List ℕ) → length out ≡ length log
    → let records = read_records log old in
    (write_refusal records out ≡ Ok tt) × (written_log records out ≡ log)
read-written log bytes old reads out long =
    let g = (accepted-readable log old reads).good in
    let s = sized (length log) g.size in
    let n = length-record-bytes log in
    let read : read_records log old ≡ record_bytes log = the-new reads (record_bytes log) old in
    let w : Writable (record_bytes log) out = record { even = omega arith; most = omega arith; allowed = g.records; room = omega arith } in
    let writes : write_refusal (record_bytes log) out ≡ Ok tt = write-accepted (record_bytes log) out w in
    rw read (writes, the-new writes (log_of (record_bytes log)) out ∙ log_back log bytes g)

-- Reading is accepted exactly where the log passes the tests of a log, which are those that the run makes of one too, and the
-- slice for the record bytes is four bytes shorter than the log.
pub one-good-log : (log records : List ℕ) →
    (read_refusal log records ≡ Ok tt → (refusal_of (log_tests log) ≡ Ok tt) × (length log ≡ length records + 4))
    × (refusal_of (log_tests log) ≡ Ok tt → length log ≡ length records + 4 → read_refusal log records ≡ Ok tt)
one-good-log log records = (
  λ reads. let r = accepted-readable log records reads in (good-accepted log r.good, r.room),
  λ passes room. read-accepted log records (record { room = room; good = accepted-good log passes }),
)

-- Where the state and the lent slices pass their tests, the tests of the log decide whether a run is accepted: those that decide of
-- the reader.
pub run-same-log : (c : Chip) (vram map line log : List ℕ)
    → length vram ≡ 16384 → length map ≡ 2048 → length line ≡ 256 → well_formed c ≡ true
    → (run_log c vram map line log).result ≡ giving (refusal_of (log_tests log)) (reached_of (end_of c vram map line log))
run-same-log c vram map line log full mapped wide formed =
    ap (λ (r : Outcome). giving r (reached_of (end_of c vram map line log))) (log-decides c vram map line log full mapped wide formed)

numbers-back : (op : Operation) → operation_of (operation_number op) ≡ op
unfolding operation_of
numbers-back DataWrite = refl
numbers-back ControlWrite = refl
numbers-back DataRead = refl
numbers-back StatusRead = refl
numbers-back DrawLine = refl
numbers-back EndOfDisplay = refl
numbers-back Reset = refl

operations-back : (n : ℕ) → n ≤ 6 → operation_number (operation_of n) ≡ n
unfolding operation_of
operations-back zero h = refl
operations-back (suc zero) h = refl
operations-back (suc (suc zero)) h = refl
operations-back (suc (suc (suc zero))) h = refl
operations-back (suc (suc (suc (suc zero)))) h = refl
operations-back (suc (suc (suc (suc (suc zero))))) h = refl
operations-back (suc (suc (suc (suc (suc (suc zero)))))) h = refl
operations-back (suc (suc (suc (suc (suc (suc (suc n))))))) h = absurd (omega arith)

-- The operations are numbered 0 to 6: each of these numbers has its operation, and each operation its number.
pub numbers : ((n : ℕ) → n ≤ 6 → operation_number (operation_of n) ≡ n) × ((op : Operation) → operation_of (operation_number op) ≡ op)
numbers = (operations-back, numbers-back)

-- The log of no records is four bytes of zero, and a good log.
pub empty-log : (log_of [] ≡ 0 ∷ 0 ∷ 0 ∷ 0 ∷ []) × (refusal_of (log_tests (0 ∷ 0 ∷ 0 ∷ 0 ∷ [])) ≡ Ok tt)
unfolding log_of size_allowed distance_right log_sum_right record_bytes records_of all_allowed
empty-log = (refl, refl)
