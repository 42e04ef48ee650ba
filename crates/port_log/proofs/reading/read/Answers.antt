-- `read`: each test in turn, and what is copied past all of them.
use Prim.Native.Nat.{ℕ}
use mathlib.Core.Path.{refl, sym, ◌∙◌}
use mathlib.Core.List.{List}
use Rattle.chip.proofs.Laws.Ranges.{or-true}
use Rattle.port_log.proofs.Laws.Form.{too_short, length-record-bytes}
use Rattle.port_log.proofs.reading.read.Goals as goal

pub returns-then-log-lt4-clause-value : goal.returns-then-log-lt4-clause-value
returns-then-log-lt4-clause-value c =
    rw (too_short c.if-log-lt4.true, or-true) (refl)

pub returns-then-log-lt4-clause-records_after : goal.returns-then-log-lt4-clause-records_after
returns-then-log-lt4-clause-records_after c =
    rw (too_short c.if-log-lt4.true, or-true) (refl)

pub copy-requires : goal.copy-requires
copy-requires c =
    let log_at : List ℕ = c.args.log.now in
    rw c.record_bytes.ensures (c.if-records-log.false ∙ sym (length-record-bytes (log_at)))
