-- `paint_lines`: the lines before `k` are painted.
use native.Mathlib.Omega.{arith}
use Rattle.rows.proofs.Laws.Lines.{begun_more}
use Rattle.rows.proofs.stripe.paint_lines.Goals as goal

pub loop-k-preserved : goal.loop-k-preserved
loop-k-preserved g c = λ f same. begun_more (omega arith) (omega arith) (λ j h. same c.loop-k.k c.word.result j (omega arith) c.word.ensures h) (c.loop-k.invariant f same) c.put_word.ensures
