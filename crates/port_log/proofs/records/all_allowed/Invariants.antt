-- `all_allowed`: the parts so far are allowed, and those that are left decide.
use mathlib.Core.Path.{◌≡◌}
use Rattle.std.specs.Slice.Iter.{chunks_rest, chunks_size}
use Rattle.port_log.specs.Records.{all_allowed, records_of}
use Rattle.port_log.proofs.records.all_allowed.Given as goal

abbrev pub invariant-loop-part : goal.invariant-loop-part
invariant-loop-part l =
    (chunks_size l.part-iterator ≡ 64)
    × (all_allowed (records_of l.bytes) ≡ all_allowed (records_of (chunks_rest l.part-iterator)))
