-- `put_by`: the first `i` bytes are put in.
use Prim.Native.Nat.{ℕ}
use mathlib.Core.Path.{◌≡◌}
use Rattle.chip.specs.Lists.{tabulate}
use Rattle.scenes.proofs.Laws.Put.{Put}
use Rattle.scenes.proofs.put.put_by.Given as goal

abbrev pub invariant-loop-i : goal.invariant-loop-i
invariant-loop-i g l = (f : ℕ → ℕ) → ((i x : ℕ) → goal.F-post g l.told i x → x ≡ f i) → Put l.initial.vram l.at (tabulate l.count f) l.vram l.i
