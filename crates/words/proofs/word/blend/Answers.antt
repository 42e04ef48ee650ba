-- `blend` meets its contract.
use Rattle.words.proofs.Laws.Bytes.{blended}
use Rattle.words.proofs.word.blend.Goals as goal

pub returns : goal.returns
returns c = blended c.args.mask c.args.one c.args.zero
