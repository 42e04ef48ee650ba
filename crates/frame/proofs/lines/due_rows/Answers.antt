-- `due_rows` meets its contract. (Each return unfolds `due`: by `using` and `unfolding` on the function the first two stay open.)
use mathlib.Core.Path.{sym, ◌∙◌}
use mathlib.Core.Bool.{true, false}
use Rattle.chip.proofs.Laws.Bits.{bit-zero, full-bit}
use Rattle.fetches.specs.Fetch.{fetched}
use Rattle.scanline.specs.Line.{line_of}
use Rattle.dirty.proofs.Laws.Clear.{none-dirty}
use Rattle.frame.specs.Due.{due}
use Rattle.frame.proofs.Laws.Bits.{all-rows}
use Rattle.frame.proofs.lines.due_rows.Goals as goal

pub returns-then-redraw : goal.returns-then-redraw
unfolding due
returns-then-redraw c =
    let a = c.args in
    let r = a.screen.registers in
    let vram = a.screen.vram.now in
    all-rows 255 (due a.redraw r vram a.map.now) true full-bit (λ l. rw c.if-redraw.true)

pub returns-then-is_clear : goal.returns-then-is_clear
unfolding due
returns-then-is_clear c =
    let a = c.args in
    let r = a.screen.registers in
    let vram = a.screen.vram.now in
    let clear = sym c.is_clear.ensures ∙ c.if-is_clear.true in
    all-rows 0 (due a.redraw r vram a.map.now) false (λ k h. bit-zero k) (λ l. rw c.if-redraw.false (none-dirty a.map.now clear (fetched (line_of r l) vram)))

pub returns : goal.returns
unfolding due
returns c = rw c.if-redraw.false c.dirty_rows.ensures
