-- `draw_multicolor`: the cells before `i` are painted.
use Prim.Native.Nat.{ℕ, ◌+◌, ◌*◌}
use mathlib.Core.Bool.{cond}
use mathlib.Core.List.{List}
use lib.Dec.{ltb}
use lib.ListN.{get_or}
use Rattle.chip.specs.declared.mode.Mode.TheVariants.{Multicolor}
use Rattle.words.specs.Words.{byte_of}
use Rattle.rows.proofs.Laws.Tiles.{Tiled}
use Rattle.rows.proofs.draw.draw_multicolor.Given as goal

-- pixel j of line k of cell i
abbrev pub tile : List ℕ → List ℕ → List ℕ → ℕ → ℕ → ℕ → ℕ → ℕ
tile vram words names patterns i k j =
    let place : ℕ = patterns + 8 * get_or names i 0 in
    cond (ltb k 4) (byte_of j (get_or words (get_or vram place 0) 0)) (byte_of j (get_or words (get_or vram (place + 1) 0) 0))

abbrev pub invariant-loop-i : goal.invariant-loop-i
invariant-loop-i l = Tiled Multicolor (tile l.vram l.words l.name-items l.patterns) l.part l.initial.part l.i
