-- The lengths that a log can have, and its record bytes.
use Prim.Native.Nat.{ℕ, ◌%◌, ◌≤◌, ◌<◌}
use native.Mathlib.Omega.{arith}
use mathlib.Core.Path.{◌≡◌}
use mathlib.Core.Bool.{true, false, ◌&&◌}
use mathlib.Core.List.{List, ◌++◌}
use lib.Dec.{eqb, leb}
use lib.ListN.{length, take, drop}
use lib.Seq.{length-take-le}
use Rattle.std.proofs.lemmas.List.{take-append-drop}
use borrow.Author.Tests.{leb-true, eqb-true, le-leb, lt-leb, eq-eqb}
use Rattle.chip.proofs.Laws.Ranges.{and_left, and_right, and_both}
use Rattle.port_log.specs.Format.{log_trailer_at, record_bytes}
use Rattle.port_log.specs.Tests.{size_allowed}

-- What the test of a log's length shows.
pub record Sized (n : ℕ) : Type 0 where
  pub least : 4 ≤ n
  pub most : n ≤ 40004
  pub even : n % 2 ≡ 0

pub sized : (n : ℕ) → size_allowed n ≡ true → Sized n
unfolding size_allowed
sized n e =
    let ends = and_left (leb 4 n && leb n 40004) (eqb (n % 2) 0) e in
    record {
      least = leb-true 4 n (and_left (leb 4 n) (leb n 40004) ends);
      most = leb-true n 40004 (and_right (leb 4 n) (leb n 40004) ends);
      even = eqb-true (n % 2) 0 (and_right (leb 4 n && leb n 40004) (eqb (n % 2) 0) e);
    }

pub size-right : {n : ℕ} → Sized n → size_allowed n ≡ true
unfolding size_allowed
size-right {n} s = and_both (and_both (le-leb 4 n s.least) (le-leb n 40004 s.most)) (eq-eqb (n % 2) 0 s.even)

pub too_short : {n : ℕ} → n < 4 → size_allowed n ≡ false
unfolding size_allowed
too_short {n} h = rw (lt-leb 4 n h)

pub length-record-bytes : (log : List ℕ) → length (record_bytes log) ≡ log_trailer_at log
unfolding record_bytes
length-record-bytes log = length-take-le (log_trailer_at log) log (omega arith)

-- The record bytes and the trailer of a log are the whole.
pub joined : (log : List ℕ) {records trailer : List ℕ} → records ≡ take (log_trailer_at log) log → trailer ≡ drop (log_trailer_at log) log → records ++ trailer ≡ log
joined log first last = rw (first, last) (take-append-drop (log_trailer_at log) log)
