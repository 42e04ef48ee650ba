-- `start` meets its contract.
use Rattle.std.proofs.Common.{rules, ◌≡◌}
use Rattle.chip.specs.State.{power_up_state}
use Rattle.snapshot.specs.Calls.{read_snapshot}
use Rattle.text.proofs.Laws.Steps.{started}
use Rattle.text.proofs.walk.start.Goals as goal

pub returns-clause-value : goal.returns-clause-value
returns-clause-value c =
    let read : c.read-answer.result ≡ read_snapshot power_up_state c.args.vram.now c.args.file.now = search rules in
    started c.args.vram.now c.args.file.now read c.first_next.ensures
