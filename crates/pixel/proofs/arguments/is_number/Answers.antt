-- `is_number` meets its contract: `all` looks at each character.
use Rattle.std.proofs.Common.{rules, ◌≡◌, true, sym, ◌∙◌, slice_index, IsTrue, EachIndex, ◌↔◌}
use Rattle.pixel.specs.Arguments.{is_digit}
use Rattle.pixel.proofs.Laws.Arguments.{digits-each}
use Rattle.pixel.proofs.arguments.is_number.Goals as goal

pub returns-then-not-is_empty : goal.returns-then-not-is_empty
returns-then-not-is_empty c =
    let word = c.args.word.now in
    let each : IsTrue c.all.result ↔ EachIndex word (λ k. is_digit (slice_index word k) ≡ true) = search rules in
    rw (sym c.is_empty.ensures ∙ c.if-not-is_empty.true) (digits-each word each)
