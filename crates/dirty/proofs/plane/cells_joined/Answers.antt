-- `cells_joined` meets its contract.
use Prim.Native.Nat.{ℕ, ◌+◌}
use mathlib.Core.Path.{◌≡◌, refl, sym, ◌∙◌}
use mathlib.Core.Bool.{false}
use mathlib.Core.List.{List}
use mathlib.Core.Logic.{◌⊎◌, ⊎_elim}
use lib.ListN.{length, get_or}
use lib.Seq.{take_all}
use borrow.Author.Rules.{rules}
use Rattle.chip.specs.Bits.{bit}
use Rattle.chip.specs.Ranges.{any_below}
use Rattle.chip.specs.declared.mode.Mode.TheVariants.{Blank, Multicolor, Text}
use Rattle.chip.proofs.Laws.Bits.{bit-zero, full-bit}
use Rattle.chip.proofs.Laws.Ranges.{none-holds}
use Rattle.dirty.specs.Plane.{ByteBits}
use Rattle.dirty.proofs.Laws.Cells.{Places, patterns_joined, colours_joined, colours_shared}
use Rattle.dirty.proofs.plane.cells_joined.Goals as goal
use Rattle.dirty.proofs.plane.cells_joined.Goals.{After-third_of}

places : (c : After-third_of) → Places c.args.mode c.args.table c.args.screen.registers c.args.screen.vram.now c.args.row c.names_from-first.result c.names_long.result c.table_from.result c.third_of.result
places c = search rules

pub returns-in-Patterns-default : goal.returns-in-Patterns-default
returns-in-Patterns-default c = patterns_joined (places (goal.at.returns-in-Patterns-default c).After-third_of) _ c.in-Patterns-default.is-0 _ _ c.joined.ensures c.shown.ensures

pub returns-then-shared_dirty : goal.returns-then-shared_dirty
returns-then-shared_dirty c =
    λ k h. full-bit k h ∙ sym c.if-shared_dirty.true ∙ colours_shared (places (goal.at.returns-then-shared_dirty c).After-third_of) _ c.in-Colours-GraphicsI.is-0 c.in-Colours-GraphicsI.is-1 c.shared_dirty.ensures k h

pub returns-else-shared_dirty : goal.returns-else-shared_dirty
returns-else-shared_dirty c =
    λ k h. bit-zero k ∙ sym c.if-shared_dirty.false ∙ colours_shared (places (goal.at.returns-else-shared_dirty c).After-third_of) _ c.in-Colours-GraphicsI.is-0 c.in-Colours-GraphicsI.is-1 c.shared_dirty.ensures k h

-- of the same names
over : (l names map : List ℕ) (at byte : ℕ) → ByteBits byte (λ k. any_below (length l) (λ i. bit k (get_or map (at + get_or l i 0) 0))) → l ≡ names → ByteBits byte (λ k. any_below (length names) (λ i. bit k (get_or map (at + get_or names i 0) 0)))
over l names map at byte bits e = rw e at bits

pub returns-in-Colours-GraphicsII : goal.returns-in-Colours-GraphicsII
returns-in-Colours-GraphicsII c = colours_joined (places (goal.at.returns-in-Colours-GraphicsII c).After-third_of) _ c.in-Colours-GraphicsII.is-0 c.in-Colours-GraphicsII.is-1 _ (over _ _ _ _ _ c.joined-in-Colours-GraphicsII.ensures (search (rules, take_all)))

-- in a mode without a colour table
no_table : (k n : ℕ) → bit k 0 ≡ any_below n (λ i. false)
no_table k n = bit-zero k ∙ sym (none-holds n (λ i. false) (λ i below. refl))

pub returns-in-Colours-Blank : goal.returns-in-Colours-Blank
returns-in-Colours-Blank c =
    λ k h.
    let other : (c.args.mode ≡ Blank) ⊎ ((c.args.mode ≡ Multicolor) ⊎ (c.args.mode ≡ Text)) = search rules in
    rw c.in-Colours-Blank.is-0
    (⊎_elim (λ m. rw m (no_table k 0)) (⊎_elim (λ m. rw m (no_table k 32)) (λ m. rw m (no_table k 40))) other)
