-- `run`: each test in turn, and the records past all of them.
use Prim.Native.Nat.{ℕ}
use native.Mathlib.Omega.{arith}
use mathlib.Core.Path.{sym, ◌∙◌}
use mathlib.Core.List.{List}
use lib.ListN.{length}
use Rattle.port_log.proofs.Laws.Form.{sized, length-record-bytes}
use Rattle.port_log.proofs.Laws.Refusals.{accepted-good}
use Rattle.port_log.proofs.running.run.Goals as goal

pub run_records-requires : goal.run_records-requires
run_records-requires c =
    let log : List ℕ = c.args.log.now in
    let size = sized (length log) (accepted-good log (sym c.tested.ensures ∙ c.in_default.is)).size in
    rw c.record_bytes.ensures (omega (arith, length-record-bytes log))
