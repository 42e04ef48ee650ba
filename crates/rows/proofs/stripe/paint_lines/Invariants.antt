-- `paint_lines`: the lines before `k` are painted.
use Prim.Native.Nat.{ℕ, ◌<◌}
use mathlib.Core.Path.{◌≡◌}
use Rattle.words.specs.Words.{byte_of}
use Rattle.rows.proofs.Laws.Lines.{Begun}
use Rattle.rows.proofs.stripe.paint_lines.Given as goal

abbrev pub invariant-loop-k : goal.invariant-loop-k
invariant-loop-k g l = (f : ℕ → ℕ → ℕ) → ((k w j : ℕ) → k < 8 → goal.F-post g l.word k w → j < 8 → byte_of j w ≡ f k j) → Begun l.part l.initial.part l.at l.k f
