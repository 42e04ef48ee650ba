-- `row_marked` meets its contract.
use mathlib.Core.Path.{ap, ◌∙◌}
use Rattle.chip.specs.Bits.{bit}
use Rattle.chip.proofs.Laws.Bits.{full-bit}
use Rattle.dirty.proofs.Laws.Added.{bits-set, bits-same}
use Rattle.dirty.proofs.scan.row_marked.Goals as goal
use Rattle.dirty.proofs.scan.row_marked.Goals.{then-line_marked, else-line_marked}

pub returns-then-before-eq255 : goal.returns-then-before-eq255
returns-then-before-eq255 c = λ k h. let set = ap (bit k) c.if-before-eq255.true ∙ full-bit k h in rw set

pub loop-k-preserved : goal.loop-k-preserved
loop-k-preserved c =
    elim c.if-line_marked.branch [
      | then-line_marked w ↦ rw (w.byte-is ∙ w.set_bit-byte.ensures) (bits-set c.loop-k.invariant c.loop-k-test.true c.line_marked.result c.line_marked.ensures w.if-line_marked.true)
      | else-line_marked w ↦ rw w.byte-is (bits-same c.loop-k.invariant c.loop-k-test.true c.line_marked.result c.line_marked.ensures w.if-line_marked.false)
    ]
