-- `joined`: bits 5 and 6 of the notes so far, with the notes to come, tell what all notes do.
use Prim.Native.Nat.{ℕ}
use native.Mathlib.Numerals.{add-one}
use native.Mathlib.Omega.{arith}
use mathlib.Core.Path.{◌≡◌, sym, ap, ◌∙◌}
use mathlib.Core.Bool.{Bool, ◌||◌}
use mathlib.Core.List.{List, []}
use lib.ListN.{length, drop}
use lib.Seq.{drop-length}
use Rattle.chip.specs.Bits.{bit}
use Rattle.chip.proofs.Laws.Ranges.{or-false}
use Rattle.frame.specs.Status.{has_fifth, some}
use Rattle.frame.proofs.Laws.Status.{fifth-told, met-told, one-joined}
use Rattle.frame.proofs.status.joined.Goals as goal

pub loop-note-preserved : goal.loop-note-preserved
loop-note-preserved c =
    let notes = c.args.notes.now in (
      rw add-one (one-joined 5 has_fifth fifth-told c.loop-note.joined notes c.loop-note.note-index (omega arith) ∙ c.loop-note.invariant.0),
      rw add-one (one-joined 6 (bit 6) met-told c.loop-note.joined notes c.loop-note.note-index (omega arith) ∙ c.loop-note.invariant.1),
    )

pub returns : goal.returns
unfolding some
returns c =
    let notes = c.args.notes.now in
    let whole : c.loop-note.note-index ≡ length notes = omega arith in
    let none : drop c.loop-note.note-index notes ≡ [] = ap (λ (n : ℕ). drop n notes) whole ∙ drop-length notes in
    let end : (p : ℕ → Bool) (t : Bool) → t ≡ (t || some p (drop c.loop-note.note-index notes)) = λ p t. sym (or-false t) ∙ ap (λ (m : List ℕ). t || some p m) (sym none) in
    record { fifth = end has_fifth _ ∙ c.loop-note.invariant.0; met = end (bit 6) _ ∙ c.loop-note.invariant.1 }
