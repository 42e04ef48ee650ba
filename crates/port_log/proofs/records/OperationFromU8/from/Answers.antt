-- `from`: a number above 5 is that of a reset, or of no operation.
use native.Mathlib.Omega.{arith}
use mathlib.Core.Path.{sym}
use Rattle.port_log.proofs.Laws.Records.{others-reset}
use Rattle.port_log.proofs.records.OperationFromU8.from.Goals as goal

pub returns-in_default : goal.returns-in_default
returns-in_default c = sym (others-reset c.args.number (omega arith))
