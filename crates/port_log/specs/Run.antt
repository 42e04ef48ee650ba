-- The run of a log: its records' calls, one after another, until a read differs from what is expected.
use Rattle.std.specs.Prelude.{ℕ, ◌+◌, Bool, cond, not, ◌&&◌, List, [], ◌∷◌, eqb, Result, Ok, Err}
use Rattle.chip.specs.Map.{map_size}
use Rattle.chip.specs.Refusals.{Outcome, Test, vram_test, slice_test, state_test, refusal_of, if_accepted, giving, value_of}
use Rattle.chip.specs.declared.state.Chip.{Chip}
use Rattle.chip.specs.declared.refusal.Answer.{Answer}
use Rattle.chip.specs.declared.refusal.Refusal.{Refusal}
use Rattle.scanline.specs.Calls.{line_size}
use Rattle.port_log.specs.Format.{record_bytes}
use Rattle.port_log.specs.Records.{operation_of, is_read, records_of}
use Rattle.port_log.specs.Tests.{log_tests}
use Rattle.port_log.specs.Single.{Target, target, answer_to, after}
use Rattle.port_log.specs.declared.records.Record.{Record}
use Rattle.port_log.specs.declared.running.Reached.{Reached}
use Rattle.port_log.specs.declared.running.Ran.{Ran}

-- Whether the record is of a read, and another byte came than its value.
abbrev pub differs : Record → ℕ → Bool
differs r x = is_read (operation_of r.operation) && not (eqb x r.value)

-- Where a run has ended: what its calls left, how many records are done, the place of the read that differed, and the byte that
-- was found there. If none differed, the place is the count of records, and the byte is 0.
pub record End : Type 0 where
  pub target : Target
  pub done : ℕ
  pub place : ℕ
  pub found : ℕ

-- The run from place i on. The read that differs is done too.
unfoldable pub run_from : ℕ → List Record → Target → End
run_from i [] t = record { target = t; done = i; place = i; found = 0 }
run_from i (r ∷ rs) t =
    cond (differs r (value_of (answer_to r t).result))
    (record { target = after r t; done = i + 1; place = i; found = value_of (answer_to r t).result })
    (run_from (i + 1) rs (after r t))

-- How far it came.
abbrev pub reached_of : End → Reached
reached_of e = record { done = e.done; place = e.place; found = e.found }

-- An end as an accepted run hands it back, with the state.
abbrev pub ran_of : End → Ran
ran_of e = record { chip = e.target.chip; result = Ok (reached_of e) }

-- What a refused run hands back: the state as given, and the refusal.
abbrev pub refused_run : Chip → Refusal → Ran
refused_run c r = record { chip = c; result = Err r }

-- All tests come before the first record.
abbrev pub run_own_tests : List ℕ → List ℕ → List Test
run_own_tests line log = slice_test line_size line ∷ log_tests log

abbrev pub run_tests : Chip → List ℕ → List ℕ → List ℕ → List ℕ → List Test
run_tests c vram map line log = vram_test vram ∷ slice_test map_size map ∷ state_test c ∷ run_own_tests line log

abbrev pub run_refusal : Chip → List ℕ → List ℕ → List ℕ → List ℕ → Outcome
run_refusal c vram map line log = refusal_of (run_tests c vram map line log)

abbrev pub end_of : Chip → List ℕ → List ℕ → List ℕ → List ℕ → End
end_of c vram map line log = run_from 0 (records_of (record_bytes log)) (target c vram map line)

abbrev pub run_log : Chip → List ℕ → List ℕ → List ℕ → List ℕ → Ran
run_log c vram map line log =
    let r = run_refusal c vram map line log in
    let e = end_of c vram map line log in
    record { chip = if_accepted r e.target.chip c; result = giving r (reached_of e) }

abbrev pub run_vram : Chip → List ℕ → List ℕ → List ℕ → List ℕ → List ℕ
run_vram c vram map line log = if_accepted (run_refusal c vram map line log) (end_of c vram map line log).target.vram vram

abbrev pub run_map : Chip → List ℕ → List ℕ → List ℕ → List ℕ → List ℕ
run_map c vram map line log = if_accepted (run_refusal c vram map line log) (end_of c vram map line log).target.map map

abbrev pub run_line : Chip → List ℕ → List ℕ → List ℕ → List ℕ → List ℕ
run_line c vram map line log = if_accepted (run_refusal c vram map line log) (end_of c vram map line log).target.line line

-- State, refusal and byte found as a call answers them.
abbrev pub found_by : Result Reached Refusal → Result ℕ Refusal
found_by (Ok reached) = Ok reached.found
found_by (Err r) = Err r

abbrev pub answer_of : Ran → Answer
answer_of r = record { chip = r.chip; result = found_by r.result }
