-- The single calls of a log's records, and what it means that a run is those calls.
use Rattle.std.specs.Prelude.{ℕ, suc, ◌+◌, ◌≡◌, true, List, [], ◌∷◌, length, take, drop}
use Rattle.port_log.specs.Format.{record_bytes}
use Rattle.port_log.specs.Records.{operation_of, is_read, records_of}
use Rattle.port_log.specs.declared.records.Operation.{Operation}
use Rattle.port_log.specs.declared.records.Operation.TheVariants.{DataWrite, ControlWrite, DataRead, StatusRead, DrawLine, EndOfDisplay, Reset}
use Rattle.port_log.specs.declared.records.Record.{Record}
use Rattle.claims.specs.Bench.{Bench}
use Rattle.claims.specs.Call.{Op, direct, Call, whole}
use Rattle.claims.specs.Step.{Step, step, run}

-- The call that a record names. A line goes into the slice that the run was lent for lines. The run has none for origins: codes is
-- one that the single call is lent.
abbrev pub single_by : Operation → ℕ → List ℕ → List ℕ → Op
single_by DataWrite v line codes = Op.data_write v
single_by ControlWrite v line codes = Op.control_write v
single_by DataRead v line codes = Op.data_read
single_by StatusRead v line codes = Op.status_read
single_by DrawLine v line codes = Op.draw_line line codes v
single_by EndOfDisplay v line codes = Op.end_of_display
single_by Reset v line codes = Op.reset

abbrev pub single : List ℕ → List ℕ → Record → Call
single line codes r = whole (single_by (operation_of r.operation) r.value line codes) direct

-- The slices from place 1 on.
abbrev pub later : (ℕ → List ℕ) → ℕ → List ℕ
later codes i = codes (suc i)

-- The calls of several records, the one at place i with codes i for its origins.
abbrev pub singles : List ℕ → (ℕ → List ℕ) → List Record → List Call
singles line codes [] = []
singles line codes (r ∷ rs) = single line (codes 0) r ∷ singles line (later codes) rs

-- Made one after another, none of the calls is refused, and each read answers its record's value.
abbrev pub AsExpected : List ℕ → (ℕ → List ℕ) → Bench → List Record → Type 0
AsExpected line codes b [] = Unit {0}
AsExpected line codes b (r ∷ rs) =
    let s = step b (single line (codes 0) r) in
    (s.reply.refusal ≡ 0)
    × (is_read (operation_of r.operation) ≡ true → s.reply.values ≡ r.value ∷ [])
    × AsExpected line (later codes) s.bench rs

-- The slice for lines after the calls: what the last that filled it left there, or what it held. (It is the first of a call's own
-- slices.)
abbrev pub latest : List (List ℕ) → List ℕ → List ℕ
latest [] held = held
latest (l ∷ ls) held = l

abbrev pub last_line : List ℕ → (ℕ → List ℕ) → Bench → List Record → List ℕ → List ℕ
last_line line codes b [] held = held
last_line line codes b (r ∷ rs) held =
    let s = step b (single line (codes 0) r) in
    last_line line (later codes) s.bench rs (latest s.reply.slices held)

-- The step of record r's call, made behind the records before the place.
abbrev pub step_at : List ℕ → (ℕ → List ℕ) → Bench → List Record → ℕ → Record → Step
step_at line codes b records place r = step (run b (singles line codes (take place records))) (single line (codes place) r)

-- How a run can end: behind the last record; or at a read that is accepted and done, and answers another byte than expected.
pub data Ending (line : List ℕ) (codes : ℕ → List ℕ) (b : Bench) (records : List Record) (done place found : ℕ) : Type 0 where
  no_difference : done ≡ length records → place ≡ length records → found ≡ 0 → Ending line codes b records done place found
  difference : (r : Record) (rest : List Record) → drop place records ≡ r ∷ rest → done ≡ place + 1
      → is_read (operation_of r.operation) ≡ true
      → (step_at line codes b records place r).reply.refusal ≡ 0
      → (step_at line codes b records place r).reply.values ≡ found ∷ []
      → (found ≡ r.value → ⊥)
      → Ending line codes b records done place found

-- That the step of a run is that of its records' single calls, as far as they were done: the bench and the slice for lines are those
-- that these calls leave; all before the place are as expected; and at the place the run has ended.
pub record IsSingleCalls (b : Bench) (line : List ℕ) (codes : ℕ → List ℕ) (log : List ℕ) (s : Step) : Type 0 where
  pub done : ℕ
  pub place : ℕ
  pub found : ℕ
  pub numbers : s.reply.values ≡ found ∷ done ∷ place ∷ []
  pub leaves : s.bench ≡ run b (singles line codes (take done (records_of (record_bytes log))))
  pub slice : s.reply.slices ≡ last_line line codes b (take done (records_of (record_bytes log))) line ∷ []
  pub expected : AsExpected line codes b (take place (records_of (record_bytes log)))
  pub ending : Ending line codes b (records_of (record_bytes log)) done place found
