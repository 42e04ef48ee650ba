-- The tests of a log, and of record bytes beside it.
use Rattle.std.specs.Prelude.{ℕ, ◌+◌, ◌%◌, Bool, ◌&&◌, List, [], ◌∷◌, eqb, leb, length}
use Rattle.chip.specs.TwoBytes.{low_first_at}
use Rattle.chip.specs.Refusals.{Test}
use Rattle.chip.specs.declared.refusal.Refusal.TheVariants.{LogForm, LogRecord}
use Rattle.snapshot.specs.Format.{checksum}
use Rattle.port_log.specs.Format.{log_trailer_size, longest_log, log_trailer_at, record_bytes}
use Rattle.port_log.specs.Records.{records_of, all_allowed}

-- Whether a log can have so many bytes: it has a trailer and up to 20,000 whole records.
unfoldable pub size_allowed : ℕ → Bool
size_allowed n = leb log_trailer_size n && leb n longest_log && eqb (n % 2) 0

abbrev pub log_size_test : List ℕ → Test
log_size_test log = record { refusal = LogForm; passes = size_allowed (length log) }

-- Record bytes are as many as the log has before its trailer.
abbrev pub records_size_test : List ℕ → List ℕ → Test
records_size_test log records = record { refusal = LogForm; passes = eqb (length records) (log_trailer_at log) }

-- Whether the trailer has the right distance, and the right sum.
unfoldable pub distance_right : List ℕ → Bool
distance_right log = eqb (low_first_at log (log_trailer_at log)) (log_trailer_at log)

unfoldable pub log_sum_right : List ℕ → Bool
log_sum_right log = eqb (low_first_at log (log_trailer_at log + 2)) (checksum (record_bytes log))

abbrev pub distance_test : List ℕ → Test
distance_test log = record { refusal = LogForm; passes = distance_right log }

abbrev pub log_sum_test : List ℕ → Test
log_sum_test log = record { refusal = LogForm; passes = log_sum_right log }

-- Every record is allowed.
abbrev pub records_test : List ℕ → Test
records_test records = record { refusal = LogRecord; passes = all_allowed (records_of records) }

-- All tests of a log.
abbrev pub log_tests : List ℕ → List Test
log_tests log = log_size_test log ∷ distance_test log ∷ log_sum_test log ∷ records_test (record_bytes log) ∷ []
