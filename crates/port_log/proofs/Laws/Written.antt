-- The log of record bytes: where its parts stand, and that it is a good log where the records are allowed.
use Prim.Native.Nat.{ℕ, ◌+◌}
use native.Mathlib.Omega.{arith}
use mathlib.Core.Path.{◌≡◌, refl, ap, ◌∙◌}
use mathlib.Core.Bool.{true}
use mathlib.Core.List.{List}
use lib.ListN.{length, get_or, take, length-append}
use lib.Seq.{take_at, get_or-append-add}
use borrow.Author.Tests.{eq-eqb}
use Rattle.chip.specs.State.{Bytes}
use Rattle.chip.specs.TwoBytes.{low_first, low_first_at}
use Rattle.chip.proofs.Laws.TwoBytes.{low-first-is, bytes_low_first}
use Rattle.snapshot.specs.Format.{checksum}
use Rattle.snapshot.proofs.Laws.Bytes.{both}
use Rattle.port_log.specs.Format.{log_trailer_of, log_of, log_trailer_at, record_bytes}
use Rattle.port_log.specs.Records.{records_of, all_allowed}
use Rattle.port_log.specs.Tests.{distance_right, log_sum_right}
use Rattle.port_log.proofs.Laws.Form.{Sized, size-right}
use Rattle.port_log.proofs.Laws.Refusals.{Good, Writable}

module _ (records : List ℕ) where
  abbrev log : List ℕ
  log = log_of records

  abbrev n : ℕ
  n = length records

  pub length-log : length log ≡ n + 4
  unfolding log_of
  length-log = length-append records (log_trailer_of records)

  trailer-at : log_trailer_at log ≡ n
  trailer-at = omega (arith, length-log)

  -- the trailer stands behind the records
  tail : (k : ℕ) {m : ℕ} → m ≡ n + k → get_or log m 0 ≡ get_or (log_trailer_of records) k 0
  unfolding log_of
  tail k e = ap (λ (m : ℕ). get_or (log_of records) m 0) e ∙ get_or-append-add records (log_trailer_of records) k 0

  pub records-back : record_bytes log ≡ records
  unfolding record_bytes log_of
  records-back = ap (λ (m : ℕ). take m (log_of records)) trailer-at ∙ take_at records (log_trailer_of records) n refl

  distance-right : distance_right log ≡ true
  unfolding distance_right
  distance-right = rw trailer-at
      (eq-eqb (low_first_at log n) n
      (low-first-is log n n (tail 0 (omega arith)) (tail 1 (omega arith))))

  sum-right : log_sum_right log ≡ true
  unfolding log_sum_right
  sum-right = rw (trailer-at, records-back)
      (eq-eqb (low_first_at log (n + 2)) (checksum records)
      (low-first-is log (n + 2) (checksum records) (tail 2 (omega arith)) (tail 3 (omega arith))))

  pub good : {out : List ℕ} → Writable records out → Good log
  good w =
      let s : Sized (length log) = record { least = omega (arith, length-log); most = omega (arith, length-log); even = omega (arith, length-log) } in
      record {
        size = size-right s;
        distance = distance-right;
        total = sum-right;
        records = ap (λ (l : List ℕ). all_allowed (records_of l)) records-back ∙ w.allowed;
      }

  pub bytes-log : {out : List ℕ} → Writable records out → Bytes records → Bytes log
  unfolding log_of
  bytes-log w b =
      both records (log_trailer_of records) b
      (both (low_first n) (low_first (checksum records)) (bytes_low_first n (omega arith)) (bytes_low_first (checksum records) (omega arith)))
