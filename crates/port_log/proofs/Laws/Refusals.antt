-- When a log is good, and when reading and writing are accepted: each test passes.
use Prim.Native.Nat.{ℕ, ◌+◌, ◌%◌, ◌≤◌}
use native.Mathlib.Omega.{arith}
use mathlib.Core.Path.{◌≡◌, ap}
use mathlib.Core.Bool.{true}
use mathlib.Core.List.{List}
use lib.ListN.{length}
use borrow.Author.Tests.{eqb-true, eq-eqb}
use Rattle.chip.specs.Refusals.{is_accepted, refusal_of}
use Rattle.std.specs.Prelude.{Ok}
use Rattle.chip.proofs.Laws.Refusals.{all_pass, all-accepted}
use Rattle.port_log.specs.Format.{log_trailer_at, record_bytes}
use Rattle.port_log.specs.Records.{records_of, all_allowed}
use Rattle.port_log.specs.Tests.{size_allowed, distance_right, log_sum_right, log_tests}
use Rattle.port_log.specs.Calls.{read_tests, read_refusal, write_tests, write_refusal}
use Rattle.port_log.proofs.Laws.Form.{Sized, sized, size-right}

-- What the tests of a log show.
pub record Good (log : List ℕ) : Type 0 where
  pub size : size_allowed (length log) ≡ true
  pub distance : distance_right log ≡ true
  pub total : log_sum_right log ≡ true
  pub records : all_allowed (records_of (record_bytes log)) ≡ true

pub good-accepted : (log : List ℕ) → Good log → refusal_of (log_tests log) ≡ Ok tt
good-accepted log g = all-accepted (log_tests log) (g.size, (g.distance, (g.total, (g.records, tt))))

pub accepted-good : (log : List ℕ) → refusal_of (log_tests log) ≡ Ok tt → Good log
accepted-good log e =
    let p = all_pass (log_tests log) (ap is_accepted e) in
    record { size = p.0; distance = p.1.0; total = p.1.1.0; records = p.1.1.1.0 }

-- What the tests of reading show of the log and of the slice for the record bytes.
pub record Readable (log records : List ℕ) : Type 0 where
  pub room : length log ≡ length records + 4
  pub good : Good log

pub read-accepted : (log records : List ℕ) → Readable log records → read_refusal log records ≡ Ok tt
read-accepted log records r =
    let g = r.good in
    all-accepted (read_tests log records) (eq-eqb (length records) (log_trailer_at log) (omega (arith, r.room)), (g.size, (g.distance, (g.total, (g.records, tt)))))

pub accepted-readable : (log records : List ℕ) → read_refusal log records ≡ Ok tt → Readable log records
accepted-readable log records e =
    let p = all_pass (read_tests log records) (ap is_accepted e) in
    let s = sized (length log) p.1.0 in
    record {
      room = omega (arith, eqb-true (length records) (log_trailer_at log) p.0);
      good = record { size = p.1.0; distance = p.1.1.0; total = p.1.1.1.0; records = p.1.1.1.1.0 };
    }

-- What the tests of writing show of the record bytes and of the slice for the log.
pub record Writable (records log : List ℕ) : Type 0 where
  pub even : length records % 2 ≡ 0
  pub most : length records ≤ 40000
  pub allowed : all_allowed (records_of records) ≡ true
  pub room : length log ≡ length records + 4

pub write-accepted : (records log : List ℕ) → Writable records log → write_refusal records log ≡ Ok tt
write-accepted records log w =
    let s : Sized (length log) = record { least = omega arith; most = omega arith; even = omega arith } in
    all-accepted (write_tests records log) (size-right s, (eq-eqb (length records) (log_trailer_at log) (omega arith), (w.allowed, tt)))

pub accepted-writable : (records log : List ℕ) → write_refusal records log ≡ Ok tt → Writable records log
accepted-writable records log e =
    let p = all_pass (write_tests records log) (ap is_accepted e) in
    let s = sized (length log) p.0 in
    let same = eqb-true (length records) (log_trailer_at log) p.1.0 in
    record { even = omega arith; most = omega arith; allowed = p.1.1.0; room = omega arith }
