-- `meet_from` meets its contract.
use Rattle.std.proofs.Common.{arith}
use Rattle.sprites.proofs.Laws.Rows.{rows-meet}
use Rattle.sprites.proofs.meet.meet_from.Goals as goal

pub returns : goal.returns
returns c =
    let a = c.args in
    rows-meet a.r a.a a.b a.c c.row_from.result c.row_from-2.result (omega arith) c.row_from.ensures c.row_from-2.ensures
