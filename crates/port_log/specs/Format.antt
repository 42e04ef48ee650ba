-- The log: records of two bytes, and a trailer of four that points back.
use Rattle.std.specs.Prelude.{ℕ, ◌-◌, List, ◌++◌, length, take}
use Rattle.chip.specs.TwoBytes.{low_first}
use Rattle.snapshot.specs.Format.{checksum}

-- How many bytes the trailer has, and a log at most: that is with 20,000 records.
abbrev pub log_trailer_size : ℕ
log_trailer_size = 4

abbrev pub longest_log : ℕ
longest_log = 40004

-- The trailer: how far it is back to the first record, which is how many bytes the records have, and the sum of those bytes.
abbrev pub log_trailer_of : List ℕ → List ℕ
log_trailer_of records = low_first (length records) ++ low_first (checksum records)

-- The log of these record bytes, whole.
unfoldable pub log_of : List ℕ → List ℕ
log_of records = records ++ log_trailer_of records

-- Where the trailer starts, and all bytes before it.
abbrev pub log_trailer_at : List ℕ → ℕ
log_trailer_at log = length log - log_trailer_size

unfoldable pub record_bytes : List ℕ → List ℕ
record_bytes log = take (log_trailer_at log) log
