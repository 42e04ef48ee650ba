-- `paint_words` meets its contract: the columns before 8 * j are painted.
use Prim.Native.Nat.{◌+◌, ◌*◌, ◌/◌, ◌<◌}
use native.Mathlib.Omega.{arith}
use mathlib.Core.Path.{◌≡◌, sym, ap, ◌∙◌}
use lib.ListN.{get_or, length, take}
use lib.Seq.{get_or-take, length-take-le}
use Rattle.sprites.specs.Shape.{side}
use Rattle.sprites.proofs.Laws.Columns.{side-small}
use Rattle.words.specs.Words.{byte_of}
use Rattle.blit.proofs.Laws.Paint.{side-eights, pattern-at, painted-eight, painted-sprite}
use Rattle.blit.proofs.paint.paint_words.Goals as goal

pub loop-j-preserved : goal.loop-j-preserved
loop-j-preserved c =
    let j = c.loop-j.j in
    let patterns = c.to_be_bytes-patterns in
    let many : length (take (c.side.result / 8) patterns.result) ≡ c.side.result / 8 = length-take-le (c.side.result / 8) patterns.result (rw patterns.ensures (omega (arith, c.side.ensures, side-small c.args.r))) in
    let few : j < 4 = omega (arith, c.side.ensures, side-small c.args.r) in
    let byte = get_or-take (c.side.result / 8) patterns.result j 0 (omega arith) ∙ ap (λ l. get_or l j 0) patterns.ensures ∙ pattern-at c.args.row j few in
    let next : 8 * (j + 1) ≡ 8 * j + 8 = omega arith in
    rw next (painted-eight c.args.row (byte_of 0 c.repeated-colour.result) _ (λ k. byte_of k c.repeated-colour.result) few byte (λ k below. c.repeated-colour.ensures k below ∙ sym (c.repeated-colour.ensures 0 (omega arith))) c.loop-j.invariant c.paint_eight.ensures)

pub returns : goal.returns
returns c =
    let patterns = c.to_be_bytes-patterns in
    let many : length (take (c.side.result / 8) patterns.result) ≡ c.side.result / 8 = length-take-le (c.side.result / 8) patterns.result (rw patterns.ensures (omega (arith, c.side.ensures, side-small c.args.r))) in
    let all : 8 * c.loop-j.j ≡ side c.args.r = omega (arith, c.side.ensures, side-eights c.args.r) in
    rw (c.repeated-colour.ensures 0 (omega arith)) at (painted-sprite c.args.r c.args.s c.args.row c.requires.0 c.requires.1 c.told-line (byte_of 0 c.repeated-colour.result) (8 * c.loop-j.j) all c.loop-j.invariant)
