-- `put_by`: the first `i` bytes are put in.
use native.Mathlib.Omega.{arith}
use Rattle.scenes.proofs.Laws.Put.{put-none, told_more, told-all}
use Rattle.scenes.proofs.put.put_by.Goals as goal

pub loop-i-init : goal.loop-i-init
loop-i-init g c = λ f tells. put-none

pub loop-i-preserved : goal.loop-i-preserved
loop-i-preserved g c = λ f tells. told_more f (omega arith) (omega arith) (tells _ _ c.told.ensures) c.store.ensures (c.loop-i.invariant f tells)

pub returns : goal.returns
returns g c = λ f tells. told-all f (omega arith) (c.loop-i.invariant f tells)
