-- `paint_bits` meets its contract.
use Rattle.std.proofs.Common.{cond}
use Rattle.sprites.specs.Pixels.{visible, hits}
use Rattle.sprites.proofs.Laws.Paint.{Swept}
use Rattle.sprites.proofs.paint.paint_bits.Given as goal

abbrev pub invariant-loop-c : goal.invariant-loop-c
invariant-loop-c l = Swept l.line l.initial.line (λ x o. cond (hits l.r l.s (visible x)) l.value o) l.c
