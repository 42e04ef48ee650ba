-- `draw_graphics_one`: the cells before `i` are painted.
use Prim.Native.Nat.{ℕ, ◌+◌, ◌*◌, ◌/◌}
use mathlib.Core.List.{List}
use lib.ListN.{get_or}
use Rattle.chip.specs.declared.mode.Mode.TheVariants.{GraphicsI}
use Rattle.rows.proofs.Laws.Paints.{blended}
use Rattle.rows.proofs.Laws.Tiles.{Tiled}
use Rattle.rows.proofs.draw.draw_graphics_one.Given as goal

-- pixel j of line k of cell i
abbrev pub tile : List ℕ → List ℕ → List ℕ → ℕ → ℕ → ℕ → ℕ → ℕ → ℕ
tile vram paints names patterns colours i k j =
    let name : ℕ = get_or names i 0 in
    blended paints (get_or vram (patterns + 8 * name + k) 0) (get_or vram (colours + name / 8) 0) j

abbrev pub invariant-loop-i : goal.invariant-loop-i
invariant-loop-i l = Tiled GraphicsI (tile l.vram l.brush.paints l.name-items l.patterns l.colours) l.part l.initial.part l.i
