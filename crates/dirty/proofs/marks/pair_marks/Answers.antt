-- `pair_marks` meets its contract.
use mathlib.Core.Logic.{inl, inr}
use Rattle.dirty.proofs.Laws.Marks.{pair-clean}
use Rattle.dirty.proofs.marks.pair_marks.Goals as goal
use Rattle.dirty.proofs.marks.pair_marks.Goals.{then-byte-eq0, else-byte-eq0, then-byte-eq0-2, else-byte-eq0-2}

pub returns : goal.returns
returns c =
    pair-clean c.args.byte c.if-byte-eq0.first c.if-byte-eq0-2.second
    (elim c.if-byte-eq0.branch [ then-byte-eq0 w ↦ inl w.if-byte-eq0.true | else-byte-eq0 w ↦ inr w.first-is ])
    (elim c.if-byte-eq0-2.branch [ then-byte-eq0-2 w ↦ inl w.if-byte-eq0-2.true | else-byte-eq0-2 w ↦ inr w.second-is ])
