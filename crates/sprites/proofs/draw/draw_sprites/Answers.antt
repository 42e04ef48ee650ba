-- `draw_sprites` meets its contract.
use Rattle.std.proofs.Common.{◌≡◌, ℕ, ◌-◌, ◌&&◌, take, drop, get_or, ap, ◌∙◌, arith}
use Rattle.std.proofs.Math.Bool.{or_comm}
use Rattle.chip.specs.Ranges.{any_below}
use Rattle.sprites.specs.Held.{no_sprite}
use Rattle.sprites.specs.Pixels.{hits, any_hits, reach}
use Rattle.sprites.proofs.Laws.Draw.{over_none, over-one, one_lower, none-higher}
use Rattle.sprites.proofs.draw.draw_sprites.Goals as goal

pub loop-k-init : goal.loop-k-init
loop-k-init c = rw (none-higher c.args.scan.sprites c.args.scan.drawn (omega arith)) (over_none c.told-line)

pub loop-k-preserved : goal.loop-k-preserved
loop-k-preserved c =
    let h = c.loop-k in
    let r = c.args.scan.registers in
    let sprites = c.args.scan.sprites in
    let n = c.args.scan.drawn in
    let s = get_or sprites (h.k - 1) no_sprite in
    let met : c.meets_one-met.result ≡ any_below reach (λ x. hits r s x && any_hits r (drop h.k (take n sprites)) x) = c.meets_one-met.ensures ∙ ap (λ (j : ℕ). any_below reach (λ x. hits r s x && any_hits r (drop j (take n sprites)) x)) (grind arith) in
    rw (one_lower sprites n h.k no_sprite (omega arith) (omega arith) (omega arith), or_comm h.met c.meets_one-met.result)
    (over-one h.invariant s c.paint_sprite.ensures met)

pub returns-clause-value : goal.returns-clause-value
returns-clause-value c =
    let all : c.loop-k.k ≡ 0 = omega arith in
    rw all at c.loop-k.invariant.found
