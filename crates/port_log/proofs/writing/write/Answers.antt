-- `write` meets its contract.
use native.Mathlib.Omega.{arith}
use mathlib.Core.Path.{◌≡◌}
use mathlib.Core.Bool.{true}
use lib.ListN.{length}
use Rattle.port_log.specs.Tests.{size_allowed}
use Rattle.port_log.proofs.Laws.Form.{sized}
use mathlib.Core.Path.{sym, ◌∙◌}
use Rattle.port_log.proofs.writing.write.Goals as goal

pub overflow_sub-log : goal.overflow_sub-log
overflow_sub-log c =
    let size : size_allowed (length c.args.log.now) ≡ true = (sym c.size_allowed.ensures ∙ c.if-not-size_allowed.false) in
    let s = sized _ (size) in omega arith

pub fill-requires : goal.fill-requires
fill-requires c =
    let size : size_allowed (length c.args.log.now) ≡ true = (sym c.size_allowed.ensures ∙ c.if-not-size_allowed.false) in
    let s = sized _ (size) in (omega arith, omega arith)
