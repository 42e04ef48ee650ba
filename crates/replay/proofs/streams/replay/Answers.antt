-- `replay` meets its contract.
use Prim.Native.Nat.{ℕ, ◌-◌}
use native.Mathlib.Omega.{arith}
use mathlib.Core.Path.{◌≡◌, sym, ap, ◌∙◌}
use mathlib.Core.List.{List}
use lib.ListN.{length, take, drop, length-drop}
use lib.Seq.{take_all}
use borrow.Author.Rules.{rules}
use Rattle.std.specs.Prelude.{Ok, Err}
use Rattle.chip.specs.State.{power_up_state}
use Rattle.chip.specs.Map.{map_size}
use Rattle.chip.specs.Ports.{cleared_vram}
use Rattle.chip.specs.Refusals.{giving}
use Rattle.chip.specs.declared.state.Chip.{Chip}
use Rattle.chip.specs.declared.refusal.Answer.{Answer}
use Rattle.chip.specs.declared.refusal.Refusal.{Refusal}
use Rattle.chip.specs.declared.refusal.Refusal.TheVariants.{SnapshotLength}
use Rattle.chip.proofs.Laws.Refusals.{value-given}
use Rattle.scanline.specs.Calls.{line_size}
use Rattle.snapshot.specs.Calls.{read_snapshot, read_vram}
use Rattle.port_log.specs.Run.{run_log, run_vram}
use Rattle.port_log.specs.declared.running.Reached.{Reached}
use Rattle.port_log.specs.declared.running.Ran.{Ran}
use Rattle.text.proofs.Laws.Reading.{refusal-given}
use Rattle.replay.specs.Streams.{snapshot_part, log_part, clear_list, ran, reached, vram_after, refusal_of_run, replay_refusal, snapshot_refusal}
use Rattle.replay.proofs.Laws.Refused.{too_short, snapshot-refused, by-run, refused-writes}
use Rattle.replay.proofs.Laws.Accepted.{accepted-writes}
use Rattle.replay.proofs.streams.replay.Goals as goal

-- the slice behind the snapshot
behind : (input : List ℕ) → take (length input - 16406) (drop 16406 input) ≡ log_part input
behind input = take_all (length input - 16406) (drop 16406 input) (rw length-drop (omega arith))

-- what the answer of reading the snapshot's part says, and what a run from there answers
module _ (input : List ℕ) {p : Chip} {a : Answer} (up : p ≡ power_up_state) (said : a ≡ read_snapshot p cleared_vram (snapshot_part input)) where
  read : a ≡ read_snapshot power_up_state cleared_vram (snapshot_part input)
  read = rw up at said

  given : giving (snapshot_refusal input) 0 ≡ a.result
  given = sym (ap (λ (x : Answer). x.result) read)

  read-refused : {r : Refusal} → a.result ≡ Err r → replay_refusal input ≡ Err r
  read-refused e = snapshot-refused input (refusal-given (snapshot_refusal input) 0 (given ∙ e))

  module _ {vram : List ℕ} (kept : vram ≡ read_vram cleared_vram (snapshot_part input)) where
    ran-from : {r : Ran} → r ≡ run_log a.chip vram (clear_list map_size) (clear_list line_size) (take (length input - 16406) (drop 16406 input)) → r ≡ ran input
    ran-from e = e ∙ λ i. run_log (read i).chip (kept i) (clear_list map_size) (clear_list line_size) (behind input i)

    vram-from : {v : List ℕ} → v ≡ run_vram a.chip vram (clear_list map_size) (clear_list line_size) (take (length input - 16406) (drop 16406 input)) → v ≡ vram_after input
    vram-from e = e ∙ λ i. run_vram (read i).chip (kept i) (clear_list map_size) (clear_list line_size) (behind input i)

  -- the run's own refusal counts
  module _ {n : ℕ} (fine : a.result ≡ Ok n) {r : Ran} (run : r ≡ ran input) where
    counts : replay_refusal input ≡ refusal_of_run input
    counts = by-run input (value-given (snapshot_refusal input) 0 (given ∙ fine))

    gives : giving (refusal_of_run input) (reached input) ≡ r.result
    gives = sym (ap (λ (x : Ran). x.result) run)

    run-refused : {e : Refusal} → r.result ≡ Err e → replay_refusal input ≡ Err e
    run-refused is = counts ∙ refusal-given (refusal_of_run input) (reached input) (gives ∙ is)

    run-accepted : {q : Reached} → r.result ≡ Ok q → replay_refusal input ≡ Ok tt
    run-accepted is = counts ∙ value-given (refusal_of_run input) (reached input) (gives ∙ is)

pub returns-then-input-lt16406 : goal.returns-then-input-lt16406
returns-then-input-lt16406 c =
    refused-writes c.args.input.now SnapshotLength (too_short c.args.input.now c.if-input-lt16406.true) c.refuse.ensures.value c.args.output.now c.args.errors.now c.refuse.ensures.errors_after

pub returns-in-Err : goal.returns-in-Err
returns-in-Err c =
    let is = read-refused c.args.input.now c.power_up_state.ensures c.read-answer.ensures.value c.in-Err.is in
    refused-writes c.args.input.now c.in-Err.refusal is c.refuse-in-Err.ensures.value c.args.output.now c.args.errors.now c.refuse-in-Err.ensures.errors_after

pub returns-in-Err-result : goal.returns-in-Err-result
returns-in-Err-result c =
    let input : List ℕ = c.args.input.now in
    let run = ran-from input c.power_up_state.ensures c.read-answer.ensures.value c.read-answer.ensures.vram_after c.run-ran.ensures.value in
    let refused : c.run-ran.result.result ≡ Err c.in-Err-result.refusal = search rules in
    let is = run-refused input c.power_up_state.ensures c.read-answer.ensures.value c.in_default.is run refused in
    refused-writes input c.in-Err-result.refusal is c.refuse-in-Err-result.ensures.value c.args.output.now c.args.errors.now c.refuse-in-Err-result.ensures.errors_after

pub returns-in-Ok : goal.returns-in-Ok
returns-in-Ok c =
    let input : List ℕ = c.args.input.now in
    let run = ran-from input c.power_up_state.ensures c.read-answer.ensures.value c.read-answer.ensures.vram_after c.run-ran.ensures.value in
    let left = vram-from input c.power_up_state.ensures c.read-answer.ensures.value c.read-answer.ensures.vram_after c.run-ran.ensures.vram_after in
    let accepted : c.run-ran.result.result ≡ Ok c.in-Ok.reached = search rules in
    let is = run-accepted input c.power_up_state.ensures c.read-answer.ensures.value c.in_default.is run accepted in
    accepted-writes input (λ i. omega (arith, (c.type_inv.input i).fits)) is c.args.output.now c.args.errors.now (omega (arith, c.told-output)) run accepted left c.put_report.ensures.value c.write.ensures.out_after c.put_report.ensures.out_after
