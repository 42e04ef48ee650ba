-- `obeys_masks`: each register below `n` obeys its mask, and the first that does not decides.
use native.Mathlib.Omega.{arith}
use native.Mathlib.Numerals.{add-one}
use mathlib.Core.Path.{◌≡◌, sym, ◌∙◌}
use borrow.Author.Tests.{eq-eqb, ne_eqb}
use Rattle.chip.specs.State.{masked, obeys}
use Rattle.chip.proofs.Laws.Ranges.{one-fails, and_both}
use Rattle.chip.proofs.state.obeys_masks.Goals as goal

pub returns-then-keep-x : goal.returns-then-keep-x
unfolding masked
returns-then-keep-x c =
    sym (one-fails 8 (obeys c.args.registers) c.loop-n.n (omega arith) (ne_eqb _ _ (λ e. c.if-keep-x.true (c.keep.ensures ∙ e))))

pub loop-n-preserved : goal.loop-n-preserved
loop-n-preserved c = rw add-one (and_both c.loop-n.invariant (eq-eqb _ _ (sym c.keep.ensures ∙ c.if-keep-x.false)))

pub returns : goal.returns
unfolding masked
returns c =
    let n8 : c.loop-n.n ≡ 8 = omega arith in
    sym (rw n8 at c.loop-n.invariant)
