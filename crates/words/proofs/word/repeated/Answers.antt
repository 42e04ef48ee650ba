-- `repeated` meets its contract.
use borrow.Author.Rules.{rules}
use Rattle.words.proofs.Laws.Tables.{repeated-right}
use Rattle.words.proofs.word.repeated.Goals as goal

pub returns : goal.returns
returns c = repeated-right c.args.byte (search rules)
