-- `meets_one` meets its contract.
use Rattle.std.proofs.Common.{List, ◌≡◌, ℕ, ◌+◌, ◌-◌, ◌≤◌, ◌&&◌, take, drop, sym, ap, ◌∙◌, arith, rules}
use Rattle.std.proofs.lemmas.List.{drop-take}
use Rattle.std.proofs.lemmas.Iterator.{YieldsList-from_slice}
use Rattle.std.proofs.lemmas.Iterator.Adapters.{serves_from_places}
use Rattle.std.proofs.lemmas.Iterator.Search.{any_from_yields_List}
use borrow.Author.Tests.{tests}
use Rattle.chip.specs.Ranges.{any_below}
use Rattle.sprites.specs.Pixels.{hits, reach}
use Rattle.sprites.specs.declared.sprite.Sprite.{Sprite}
use Rattle.sprites.proofs.Laws.Draw.{held-from}
use Rattle.sprites.proofs.Laws.Meet.{meets-any}
use Rattle.sprites.proofs.meet.meets_one.Goals as goal

looked-at : {l : List Sprite} (sprites : List Sprite) (k : ℕ) {e n : ℕ} → l ≡ take (e - k) (drop k sprites) → e ≡ n → k ≤ n → l ≡ drop k (take n sprites)
looked-at sprites k {e = e} looked end h =
    let all : k + (e - k) ≡ e = omega arith in
    looked ∙ sym (drop-take k (e - k) sprites) ∙ ap (λ (m : ℕ). drop k (take m sprites)) (all ∙ end)

pub any-requires-clause-callable : goal.any-requires-clause-callable
any-requires-clause-callable c =
    let looked = looked-at c.args.scan.sprites c.args.k {n = c.args.scan.drawn} c.iter.ensures.rest (omega arith) c.requires.1 in
    serves_from_places (YieldsList-from_slice _ looked) (λ x q k. search rules)
    (λ x j h e _ _ _ _ _ _ _ _. (c.requires.0, rw e (held-from c.args.scan.held c.args.k j x.now h)))

pub returns : goal.returns
returns c =
    let r = c.args.scan.registers in
    let s = c.args.s in
    let looked = looked-at c.args.scan.sprites c.args.k {n = c.args.scan.drawn} c.iter.ensures.rest (omega arith) c.requires.1 in
    any_from_yields_List (λ (t : Sprite). any_below reach (λ c. hits r s c && hits r t c)) _ _ c.any.result c.any.ensures.ran (YieldsList-from_slice _ looked) (λ x b q k. search (rules, tests))
    ∙ meets-any r s _
