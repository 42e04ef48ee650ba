-- `status_through`: one note stands for all.
use native.Mathlib.Omega.{arith}
use Prim.Native.Nat.{ℕ, ◌≤◌}
use mathlib.Core.Path.{◌≡◌, sym, ap, ◌∙◌}
use mathlib.Core.Bool.{Bool, ◌&&◌}
use mathlib.Core.Logic.{inl, inr}
use mathlib.Core.List.{List}
use lib.Dec.{ltb}
use lib.Seq.{take_all}
use borrow.Author.Rules.{rules}
use Rattle.frame.specs.Status.{Joined}
use Rattle.frame.proofs.Laws.Status.{fifth-le, by-one-note}
use Rattle.frame.proofs.status.status_through.Goals as goal
use Rattle.frame.proofs.status.status_through.Goals.{then-bit-status, else-bit-status}

-- of the same notes
joined-of : {l : List ℕ} (notes : List ℕ) {j : ℕ} → Joined l j → l ≡ notes → Joined notes j
joined-of notes h e = rw e at h

pub overflow_add-fifth : goal.overflow_add-fifth
overflow_add-fifth c =
    let notes = c.args.notes.now in
    let small : c.if-bit-status.fifth ≤ 32 = elim c.if-bit-status.branch [ then-bit-status w ↦ omega (arith, fifth-le notes, w.first_fifth-fifth.ensures, w.fifth-is) | else-bit-status w ↦ omega (arith, w.fifth-is) ] in
    omega arith

pub returns : goal.returns
returns c =
    let any = c.joined-any.result in
    let test = ap (λ (b : Bool). b && ltb c.args.status 64) c.bit.ensures in
    c.status_after.ensures
    ∙ by-one-note
    c.args.notes.now
    c.args.status
    c.if-bit-status.fifth
    any
    (omega arith)
    (joined-of c.args.notes.now c.joined-any.ensures (search (rules, take_all)))
    (elim c.if-bit-status.branch [
      | then-bit-status w ↦ inl (sym test ∙ w.if-bit-status.true, w.fifth-is ∙ w.first_fifth-fifth.ensures)
      | else-bit-status w ↦ inr (sym test ∙ w.if-bit-status.false, w.fifth-is)
    ])
