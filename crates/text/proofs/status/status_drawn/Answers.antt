-- `status_drawn` meets its contract.
use Prim.Native.Nat.{ℕ, ◌+◌}
use native.Mathlib.Numerals.{add-one}
use mathlib.Core.Path.{◌≡◌, refl, sym, ap₂, ◌∙◌}
use Rattle.chip.specs.Lists.{tabulate}
use Rattle.scanline.specs.Notes.{status_after, status_through}
use Rattle.scanline.specs.Calls.{note_at}
use Rattle.scanline.proofs.Laws.LineDraws.{one-line-more}
use Rattle.text.proofs.status.status_drawn.Goals as goal

pub loop-l-init : goal.loop-l-init
unfolding status_through tabulate
loop-l-init c = refl

pub loop-l-preserved : goal.loop-l-preserved
loop-l-preserved c =
    let a = c.args in
    let f : ℕ → ℕ = note_at a.screen.registers a.screen.vram.now in
    let more : status_through a.status (tabulate (c.loop-l.l + 1) f) ≡ status_after (status_through a.status (tabulate c.loop-l.l f)) (f c.loop-l.l) = rw add-one (one-line-more a.status f c.loop-l.l) in
    c.status_after-s.ensures ∙ ap₂ status_after c.loop-l.invariant c.draw_row-note.ensures.value ∙ sym more
