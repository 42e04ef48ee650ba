-- `scan_of` meets its contract.
use Rattle.std.proofs.Common.{◌≡◌, ◌<◌, false, sym, ◌∙◌, arith, rules}
use Rattle.sprites.proofs.Laws.Scan.{going_on, going-draw, not-covering, drawn}
use Rattle.sprites.proofs.scan.scan_of.Goals as goal
use Rattle.sprites.proofs.scan.scan_of.Goals.{then-covering+else-drawn-eq4, else-covering}

pub loop-n-preserved : goal.loop-n-preserved
loop-n-preserved c =
    let a = c.args in
    let h = c.loop-n in
    let n : h.n < 32 = omega (arith, h.invariant.up, c.if-n-eq32.false) in
    let at = c.attribute_address.ensures in
    let no : c.is_terminator.result ≡ false = search rules in
    let more = rw at at (sym c.is_terminator.ensures ∙ no) in
    let covering = rw at at c.covers-covering.ensures in
    elim c.if-covering.branch [
      | then-covering+else-drawn-eq4 w ↦
          let few : h.drawn < 4 = omega (arith, h.invariant.held.few, w.if-drawn-eq4.false) in
          let d = drawn a.screen.registers a.l a.screen.vram.now h.n h.drawn n more (sym covering ∙ w.if-covering.true) w.if-drawn-eq4.false in
          let s = rw at at w.sprite_of.ensures.value in
          rw (w.sprites-is, w.drawn-is) (going-draw h.invariant w.sprite_of.result w.sprite_of.ensures.as_read n few (rw s d))
      | else-covering w ↦
          rw (w.sprites-is, w.drawn-is) (going_on h.invariant n (not-covering a.screen.registers a.l a.screen.vram.now h.n h.drawn n more (sym covering ∙ w.if-covering.false)))
    ]
