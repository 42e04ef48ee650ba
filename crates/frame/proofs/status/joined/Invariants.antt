-- `joined`: bits 5 and 6 of the notes so far, with the notes to come, tell what all notes do.
use Prim.Native.Nat.{ℕ}
use mathlib.Core.Path.{◌≡◌}
use mathlib.Core.Bool.{Bool, ◌||◌}
use mathlib.Core.List.{List}
use lib.ListN.{drop}
use Rattle.chip.specs.Bits.{bit}
use Rattle.frame.specs.Status.{has_fifth, some}
use Rattle.frame.proofs.status.joined.Given as goal

-- what bit k tells of the notes so far, or p of one to come, is what p tells of all
abbrev pub Told : List ℕ → ℕ → ℕ → ℕ → (ℕ → Bool) → Type 0
Told notes joined i k p = (bit k joined || some p (drop i notes)) ≡ some p notes

abbrev pub invariant-loop-note : goal.invariant-loop-note
invariant-loop-note l = Told l.notes l.joined l.note-index 5 has_fifth × Told l.notes l.joined l.note-index 6 (bit 6)
