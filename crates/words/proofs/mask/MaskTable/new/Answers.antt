-- `MaskTable::new`: the patterns of the bits before `b` have their masks.
use mathlib.Core.Path.{◌≡◌, refl}
use lib.Arith.{lt-one}
use Rattle.words.proofs.Laws.Tables.{mask-none}
use Rattle.words.proofs.mask.MaskTable.new.Goals as goal

pub loop-b-init : goal.loop-b-init
loop-b-init c = record { long = refl; mask = λ p h. let e : p ≡ 0 = lt-one h in rw e mask-none }
