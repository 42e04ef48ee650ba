-- `checksum`: the fold adds as the specification does.
use Rattle.std.proofs.Common.{◌≡◌, ◌+◌, ◌%◌, ◌∙◌, rules}
use Rattle.std.specs.List.{fold}
use Rattle.snapshot.proofs.Laws.Sums.{summed}
use Rattle.snapshot.proofs.sums.checksum.Goals as goal

pub returns : goal.returns
returns c =
    let bytes = c.args.s.now in
    let folded : c.fold.result ≡ fold (λ a b. (a + b) % 65536) 0 bytes = search rules in
    folded ∙ summed bytes
