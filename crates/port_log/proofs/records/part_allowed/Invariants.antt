-- `part_allowed`: those before i are allowed or not, and those from i on decide the rest.
use mathlib.Core.Path.{◌≡◌}
use mathlib.Core.Bool.{◌&&◌}
use Rattle.port_log.specs.Records.{all_allowed, records_of}
use Rattle.port_log.proofs.Laws.Records.{allowed_from}
use Rattle.port_log.proofs.records.part_allowed.Given as goal

abbrev pub invariant-loop-i : goal.invariant-loop-i
invariant-loop-i l = all_allowed (records_of l.bytes) ≡ (l.allowed && allowed_from l.i l.bytes)
