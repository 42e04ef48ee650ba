-- `run_records`: what is left to run from place `i` on ends as the whole run does.
use Prim.Native.Nat.{◌≤◌, ◌/◌, ◌-◌}
use mathlib.Core.Path.{◌≡◌}
use lib.ListN.{length}
use Rattle.port_log.specs.Records.{records_of}
use Rattle.port_log.specs.Single.{target}
use Rattle.port_log.specs.Run.{run_from}
use Rattle.port_log.specs.Rest.{run_rest}
use Rattle.port_log.proofs.running.run_records.Given as goal

abbrev pub invariant-loop-i : goal.invariant-loop-i
invariant-loop-i l = (l.i ≤ length l.records / 2)
    × (length l.vram ≡ length l.initial.vram)
    × (length l.map ≡ length l.initial.map)
    × (length l.line ≡ length l.initial.line)
    × (run_from 0 (records_of l.records) (target l.initial.chip l.initial.vram l.initial.map l.initial.line) ≡ run_rest l.records l.i (target l.chip l.vram l.map l.line))

abbrev pub decreases-loop-i : goal.decreases-loop-i
decreases-loop-i l = length l.records / 2 - l.i
