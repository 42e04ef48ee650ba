-- `draw_found` meets its contract.
use Prim.Native.Nat.{◌-◌}
use native.Mathlib.Omega.{arith}
use mathlib.Core.Path.{◌≡◌, refl, sym, ap, ◌∙◌}
use lib.ListN.{get_or}
use Rattle.std.proofs.lemmas.List.{get_or_default}
use Rattle.sprites.specs.Held.{no_sprite}
use Rattle.sprites.proofs.Laws.Draw.{over_none, over-one, one_lower, none-higher}
use Rattle.blit.specs.declared.wide_sprite.WideSprite.{WideSprite}
use Rattle.blit.specs.Wide.{no_wide}
use Rattle.blit.proofs.Laws.Meet.{rows-coincide}
use Rattle.blit.proofs.draw.draw_found.Goals as goal

pub loop-k-init : goal.loop-k-init
loop-k-init c =
    let held = c.args.scan.held in
    rw (none-higher c.args.scan.sprites c.args.scan.drawn (omega (arith, held.room, held.few))) (record { shown = (over_none {r = c.args.scan.registers} c.told-line).shown; found = refl })

pub loop-k-preserved : goal.loop-k-preserved
loop-k-preserved c =
    let held = c.args.scan.held in
    let scan = c.args.scan in
    let wides = c.wide_rows-wides in
    let k = c.loop-k.k - 1 in
    let w = c.index-wides-k.result in
    let own : w.sprite ≡ get_or scan.sprites k no_sprite = ap (λ (x : WideSprite). x.sprite) (c.index-wides-k.is ∙ get_or_default wides.result k w no_wide (omega (arith, wides.ensures.long, held.few))) ∙ wides.ensures.own k (omega (arith, held.few)) in
    let same : get_or wides.result k w ≡ w = sym c.index-wides-k.is in
    let painted = over-one c.loop-k.invariant w.sprite (rw same at c.paint_found.ensures) refl in
    let over = rw own at painted in
    rw (one_lower scan.sprites scan.drawn c.loop-k.k no_sprite c.loop-k-test.true c.loop-k.auto.k (omega (arith, held.room, held.few))) (record { shown = over.shown; found = refl })

pub returns-clause-line_after : goal.returns-clause-line_after
returns-clause-line_after c =
    let none : c.loop-k.k ≡ 0 = omega arith in
    let all = rw none at c.loop-k.invariant in
    all.shown

pub returns-clause-value : goal.returns-clause-value
returns-clause-value c = c.any_meet-met.ensures ∙ rows-coincide c.args.scan c.wide_rows-wides.result c.wide_rows-wides.ensures
