-- `status_drawn`: the status after the lines drawn so far.
use mathlib.Core.Path.{◌≡◌}
use Rattle.chip.specs.Lists.{tabulate}
use Rattle.scanline.specs.Notes.{status_through}
use Rattle.scanline.specs.Calls.{note_at}
use Rattle.text.proofs.status.status_drawn.Given as goal

abbrev pub invariant-loop-l : goal.invariant-loop-l
invariant-loop-l l = l.s ≡ status_through l.status (tabulate l.l (note_at l.screen.registers l.screen.vram.now))
