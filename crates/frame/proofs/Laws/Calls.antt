-- The tests of both calls: what acceptance tells.
use Prim.Native.Nat.{ℕ}
use mathlib.Core.Path.{◌≡◌, ap}
use mathlib.Core.Bool.{true}
use Rattle.std.specs.Prelude.{Ok}
use mathlib.Core.List.{List, [], ◌∷◌}
use lib.ListN.{length}
use borrow.Author.Tests.{eqb-true}
use Rattle.chip.specs.Map.{map_size}
use Rattle.chip.specs.State.{masked}
use Rattle.chip.specs.Refusals.{is_accepted, vram_test, slice_test, state_test}
use Rattle.chip.specs.declared.state.Chip.{Chip}
use Rattle.chip.proofs.Laws.State.{masked-in}
use Rattle.chip.proofs.Laws.Refusals.{all_pass}
use Rattle.frame.specs.Lines.{frame_size, notes_size}
use Rattle.frame.specs.Calls.{draw_refusal}

-- What acceptance shows: what the code that draws requires.
pub accepted-shows : (c : Chip) (vram map frame notes : List ℕ) → draw_refusal c vram map frame notes ≡ Ok tt → (masked c.registers ≡ true) × (length vram ≡ 16384) × (length map ≡ 2048) × (length frame ≡ 49152) × (length notes ≡ 192)
accepted-shows c vram map frame notes ok =
    let p = all_pass (vram_test vram ∷ slice_test map_size map ∷ slice_test frame_size frame ∷ slice_test notes_size notes ∷ state_test c ∷ []) (ap is_accepted ok) in
    (masked-in c p.1.1.1.1.0, eqb-true _ _ p.0, eqb-true _ _ p.1.0, eqb-true _ _ p.1.1.0, eqb-true _ _ p.1.1.1.0)
