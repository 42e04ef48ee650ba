-- `power_up` meets its contract.
use native.Mathlib.Omega.{arith}
use lib.ListN.{length}
use mathlib.Core.Path.{◌≡◌}
use borrow.Author.Tests.{eq-eqb}
use Rattle.chip.proofs.state.Chip.power_up.Goals as goal

pub returns-clause-vram_after : goal.returns-clause-vram_after
returns-clause-vram_after c =
    let size : length c.args.vram.now ≡ 16384 = omega arith in
    rw (eq-eqb _ _ size) (rw size at (c.fill.ensures.after (λ y e. e)))
