-- The records: an operation and a value each, and which are allowed.
use Rattle.std.specs.Prelude.{ℕ, ◌+◌, ◌*◌, Bool, true, false, ◌&&◌, List, [], ◌∷◌, eqb, leb, get_or}
use Rattle.port_log.specs.declared.records.Operation.{Operation}
use Rattle.port_log.specs.declared.records.Operation.TheVariants.{DataWrite, ControlWrite, DataRead, StatusRead, DrawLine, EndOfDisplay, Reset}
use Rattle.port_log.specs.declared.records.Record.{Record}

-- The number of each operation.
abbrev pub operation_number : Operation → ℕ
operation_number DataWrite = 0
operation_number ControlWrite = 1
operation_number DataRead = 2
operation_number StatusRead = 3
operation_number DrawLine = 4
operation_number EndOfDisplay = 5
operation_number Reset = 6

-- The operations in the order of their numbers, and the one with a number. (No other number is allowed in a record.)
abbrev pub operations : List Operation
operations = DataWrite ∷ ControlWrite ∷ DataRead ∷ StatusRead ∷ DrawLine ∷ EndOfDisplay ∷ Reset ∷ []

unfoldable pub operation_of : ℕ → Operation
operation_of n = get_or operations n Reset

-- Whether the operation reads a byte. A record of it has the byte that is expected as its value.
abbrev pub is_read : Operation → Bool
is_read DataWrite = false
is_read ControlWrite = false
is_read DataRead = true
is_read StatusRead = true
is_read DrawLine = false
is_read EndOfDisplay = false
is_read Reset = false

-- The values that an operation can have: a line's number, 0 where there is nothing to say, and any byte otherwise.
abbrev pub value_allowed : Operation → ℕ → Bool
value_allowed DataWrite v = true
value_allowed ControlWrite v = true
value_allowed DataRead v = true
value_allowed StatusRead v = true
value_allowed DrawLine v = leb v 191
value_allowed EndOfDisplay v = eqb v 0
value_allowed Reset v = eqb v 0

unfoldable pub allowed : Record → Bool
allowed r = leb r.operation 6 && value_allowed (operation_of r.operation) r.value

unfoldable pub all_allowed : List Record → Bool
all_allowed [] = true
all_allowed (r ∷ rs) = allowed r && all_allowed rs

-- The records that bytes hold, two bytes each.
unfoldable pub records_of : List ℕ → List Record
records_of [] = []
records_of (x ∷ []) = []
records_of (x ∷ v ∷ l) = record { operation = x; value = v } ∷ records_of l

-- Record i of them.
abbrev pub record_at : List ℕ → ℕ → Record
record_at l i = record { operation = get_or l (2 * i) 0; value = get_or l (2 * i + 1) 0 }
