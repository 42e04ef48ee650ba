-- Reading a log into record bytes, and writing one from them: the tests of each, and what it leaves in the lent slice.
use Rattle.std.specs.Prelude.{List, [], ◌∷◌, ℕ}
use Rattle.chip.specs.Refusals.{Outcome, Test, refusal_of, if_accepted}
use Rattle.port_log.specs.Format.{log_of, record_bytes}
use Rattle.port_log.specs.Tests.{log_size_test, records_size_test, records_test, log_tests}

abbrev pub read_tests : List ℕ → List ℕ → List Test
read_tests log records = records_size_test log records ∷ log_tests log

abbrev pub read_refusal : List ℕ → List ℕ → Outcome
read_refusal log records = refusal_of (read_tests log records)

abbrev pub read_records : List ℕ → List ℕ → List ℕ
read_records log records = if_accepted (read_refusal log records) (record_bytes log) records

-- What the log holds does not matter to writing, only how long it is.
abbrev pub write_tests : List ℕ → List ℕ → List Test
write_tests records log = log_size_test log ∷ records_size_test log records ∷ records_test records ∷ []

abbrev pub write_refusal : List ℕ → List ℕ → Outcome
write_refusal records log = refusal_of (write_tests records log)

abbrev pub written_log : List ℕ → List ℕ → List ℕ
written_log records log = if_accepted (write_refusal records log) (log_of records) log
