-- `draw_numbers` meets its contract.
use Rattle.std.proofs.Common.{Iter, List, ◌≡◌, ℕ, [], length, get_or, take, sym, ap, ◌∙◌}
use Rattle.std.proofs.lemmas.List.{nil_from_length}
use Rattle.chip.proofs.Laws.Lists.{tabulated, length-tabulate, get_d_tabulate}
use Rattle.sprites.specs.Pixels.{visible, numbered_colours}
use Rattle.sprites.specs.Codes.{first_number}
use Rattle.sprites.specs.declared.sprite.Sprite.{Sprite}
use Rattle.std.specs.declared.iter.Rev.{Rev}
use Rattle.sprites.proofs.Laws.Draw.{last-number}
use Rattle.sprites.proofs.draw.draw_numbers.Goals as goal

pub loop-s-preserved : goal.loop-s-preserved
loop-s-preserved c =
    record {
      long = ap length c.paint_sprite.ensures ∙ length-tabulate 256 _;
      shown = λ x h.
          let r = c.args.scan.registers in
          let l = c.next.new.self.iter.rest.now in
          let old = get_or c.loop-s.origins x 0 in
          let painted = ap (λ (t : List ℕ). get_or t x 0) c.paint_sprite.ensures ∙ get_d_tabulate 256 _ x h in
          ap (first_number (numbered_colours r l (visible x))) painted
          ∙ sym (last-number r l c.in-Some.s.now (visible x) old)
          ∙ rw c.in-Some.ensures.steps at (c.loop-s.invariant.shown x h);
    }

pub returns : goal.returns
returns c =
    let last : c.loop-s.s-iterator.iter.rest.now ≡ [] = nil_from_length _ (c.in-None.ensures.steps.0) in
    let whole : c.into_iter-s-iterator.result.iter.rest.now ≡ take c.args.scan.drawn c.args.scan.sprites = ap (λ (t : Rev (Iter Sprite)). t.iter.rest.now) c.into_iter-s-iterator.ensures.into_iter_gives ∙ ap (λ (t : Iter Sprite). t.rest.now) c.rev-s-items.ensures.source ∙ c.iter.ensures.rest in
    tabulated c.loop-s.invariant.long (λ x h. rw (whole, last) at (c.loop-s.invariant.shown x h))
