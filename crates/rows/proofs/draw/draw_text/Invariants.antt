-- `draw_text`: the cells before `i` are painted, and the margin on their left.
use Prim.Native.Nat.{ℕ, ◌+◌, ◌*◌}
use mathlib.Core.List.{List}
use lib.ListN.{get_or}
use Rattle.chip.specs.declared.mode.Mode.TheVariants.{Text}
use Rattle.words.specs.Words.{byte_of}
use Rattle.rows.proofs.Laws.Tiles.{Tiled}
use Rattle.rows.proofs.draw.draw_text.Given as goal

-- pixel j of line k of cell i
abbrev pub tile : List ℕ → List ℕ → List ℕ → ℕ → ℕ → ℕ → ℕ → ℕ
tile vram words names patterns i k j = byte_of j (get_or words (get_or vram (patterns + 8 * get_or names i 0 + k) 0) 0)

abbrev pub invariant-loop-i : goal.invariant-loop-i
invariant-loop-i l = Tiled Text (tile l.brush.screen.vram.now l.words l.name-items l.patterns) l.part l.initial.part l.i
