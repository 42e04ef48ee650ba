-- `line_marked` meets its contract.
use mathlib.Core.Path.{sym}
use Rattle.dirty.proofs.Laws.Scan.{unmarked}
use Rattle.dirty.proofs.scan.line_marked.Goals as goal

pub returns-then-set-marks-eq0 : goal.returns-then-set-marks-eq0
returns-then-set-marks-eq0 c =
    sym (unmarked c.args.screen.registers c.args.l c.args.screen.vram.now c.args.map.now c.args.set c.args.marks c.args.screen.holds_bytes (c.requires.2 c.if-quiet.true) c.requires.0 c.requires.1 c.if-set-marks-eq0.true)
