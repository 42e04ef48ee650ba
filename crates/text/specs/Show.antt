-- The whole text, from state and VRAM.
use Rattle.std.specs.Prelude.{ℕ, zero, suc, ◌+◌, List, [], ◌∷◌, ◌++◌}
use Rattle.chip.specs.declared.state.Chip.{Chip}
use Rattle.scanline.specs.Calls.{colours}
use Rattle.frame.specs.Draw.{notes_of, drawn_state}
use Rattle.text.specs.Runs.{runs, same}
use Rattle.text.specs.Lines.{status_text, ranges_text}

-- f l, f (l + 1), .. of n lines.
unfoldable pub lines_from : (ℕ → List ℕ) → ℕ → ℕ → List (List ℕ)
lines_from f l zero = []
lines_from f l (suc n) = f l ∷ lines_from f (l + 1) n

-- Status before and after a full draw, then equal neighbouring lines of the 192 as ranges.
unfoldable pub show_text : Chip → List ℕ → List ℕ
show_text c vram =
    status_text c.status (drawn_state c (notes_of c.registers vram)).status
    ++ ranges_text 0 (runs same (lines_from (colours c.registers vram) 0 192))
