-- `draw_due`: once the tests have passed, what the code that draws requires holds, and the map is cleared.
use Prim.Native.Nat.{ℕ}
use mathlib.Core.Path.{◌≡◌, sym, ap, ◌∙◌}
use mathlib.Core.Bool.{true}
use lib.ListN.{length, replicate}
use Rattle.std.proofs.Common.{rules}
use Rattle.chip.specs.State.{masked}
use Rattle.chip.proofs.Laws.Refusals.{the-new}
use Rattle.frame.specs.Draw.{clear_map}
use Rattle.frame.proofs.Laws.Calls.{accepted-shows}
use Rattle.frame.proofs.calls.draw_due.Goals as goal
use Rattle.frame.proofs.calls.draw_due.Goals.{In_default}

shows : (c : In_default) → (masked c.args.chip.registers ≡ true) × (length c.args.vram.now ≡ 16384) × (length c.args.map.now ≡ 2048) × (length c.args.frame.now ≡ 49152) × (length c.args.notes.now ≡ 192)
shows c = accepted-shows c.args.chip c.args.vram.now c.args.map.now c.args.frame.now c.args.notes.now (sym c.in_default.ensures)

pub new-screen-requires : goal.new-screen-requires
new-screen-requires c = (shows (goal.at.new-screen-requires c).In_default).0

pub unreachable-requires-in_default-as_mut_array-2 : goal.unreachable-requires-in_default-as_mut_array-2
unreachable-requires-in_default-as_mut_array-2 c =
    let long : length c.args.notes.now ≡ 192 = (shows (goal.at.unreachable-requires-in_default-as_mut_array-2 c).In_default).4 in
    c.in_default-as_mut_array-2.ensures.cases long

pub unwrap-requires-2 : goal.unwrap-requires-2
unwrap-requires-2 c =
    let long : length c.args.map.now ≡ 2048 = (shows (goal.at.unwrap-requires-2 c).In_default).2 in
    search rules

pub returns-clause-map_after : goal.returns-clause-map_after
returns-clause-map_after c =
    c.fill.ensures.after (λ y e. e)
    ∙ ap (λ (n : ℕ). replicate {A = ℕ} n 0) (shows (goal.at.returns-clause-map_after c).In_default).2
    ∙ sym (the-new (sym c.in_default.ensures) clear_map c.args.map.now)
