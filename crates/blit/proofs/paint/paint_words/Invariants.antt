-- `paint_words` meets its contract: the columns before 8 * j are painted.
use Prim.Native.Nat.{◌*◌}
use Rattle.planes.specs.Painted.{Painted}
use Rattle.words.specs.Words.{byte_of}
use Rattle.blit.proofs.Laws.Paint.{row_over}
use Rattle.blit.proofs.paint.paint_words.Given as goal

abbrev pub invariant-loop-j : goal.invariant-loop-j
invariant-loop-j l = Painted l.line l.initial.line l.first (8 * l.j) (row_over l.row (byte_of 0 l.colour) l.initial.line l.first)
