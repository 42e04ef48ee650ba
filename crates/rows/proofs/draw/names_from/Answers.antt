-- `names_from`: the name table stands within VRAM.
use native.Mathlib.Omega.{arith}
use lib.Dec.{lit<}
use Rattle.chip.proofs.Laws.Tables.{at-most-mask}
use Rattle.rows.proofs.draw.names_from.Goals as goal

pub slice_bounds-result-end : goal.slice_bounds-result-end
slice_bounds-result-end c = omega (arith, at-most-mask c.args.screen.registers c.args.screen.obeys_masks 2 (lit< tt))
