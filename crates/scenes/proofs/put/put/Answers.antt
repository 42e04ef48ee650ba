-- `put`: the first `i` bytes are put in.
use native.Mathlib.Omega.{arith}
use mathlib.Core.Path.{refl}
use Rattle.scenes.proofs.Laws.Put.{put-none, put-more, put_all}
use Rattle.scenes.proofs.put.put.Goals as goal

pub loop-i-init : goal.loop-i-init
loop-i-init c = put-none

pub loop-i-preserved : goal.loop-i-preserved
loop-i-preserved c = put-more (omega arith) refl refl c.store.ensures c.loop-i.invariant

pub returns : goal.returns
returns c = put_all (omega arith) c.loop-i.invariant
