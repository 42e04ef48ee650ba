-- `sprites_at` meets its contract.
use Rattle.std.proofs.Common.{Iter, ◌≡◌, ℕ, [], take, sym, ap, ◌∙◌, arith}
use Rattle.std.proofs.lemmas.List.{nil_from_length}
use Rattle.planes.specs.Origin.{frontmost}
use Rattle.sprites.specs.Pixels.{visible, numbered_colours}
use Rattle.sprites.specs.declared.sprite.Sprite.{Sprite}
use Rattle.std.specs.declared.iter.Rev.{Rev}
use Rattle.sprites.proofs.Laws.Draw.{last-pixel}
use Rattle.sprites.proofs.column.sprites_at.Goals as goal

pub loop-s-preserved : goal.loop-s-preserved
loop-s-preserved c =
    let a = c.args in
    let l = c.next.new.self.iter.rest.now in
    let shown = rw c.colour_at-colour.ensures at c.in_front-pixel.ensures in
    ap (frontmost (numbered_colours a.scan.registers l (visible a.x))) shown
    ∙ sym (last-pixel a.scan.registers l c.in-Some.s.now (visible a.x) c.loop-s.pixel)
    ∙ rw c.in-Some.ensures.steps at c.loop-s.invariant

pub returns : goal.returns
returns c =
    let last : c.loop-s.s-iterator.iter.rest.now ≡ [] = nil_from_length _ (c.in-None.ensures.steps.0) in
    let whole : c.into_iter-s-iterator.result.iter.rest.now ≡ take c.args.scan.drawn c.args.scan.sprites = ap (λ (t : Rev (Iter Sprite)). t.iter.rest.now) c.into_iter-s-iterator.ensures.into_iter_gives ∙ ap (λ (t : Iter Sprite). t.rest.now) c.rev-s-items.ensures.source ∙ c.iter.ensures.rest ∙ ap (λ (n : ℕ). take n c.args.scan.sprites) (omega arith) in
    rw (whole, last) at c.loop-s.invariant
