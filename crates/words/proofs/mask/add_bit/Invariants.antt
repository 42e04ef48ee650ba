-- `add_bit`: the patterns before `n + j` have their masks.
use Prim.Native.Nat.{ℕ, ◌+◌, ◌^◌, ◌≤◌, ◌<◌}
use mathlib.Core.Path.{◌≡◌}
use lib.ListN.{length, get_or}
use Rattle.words.specs.Words.{IsMask}
use Rattle.words.proofs.mask.add_bit.Given as goal

abbrev pub invariant-loop-j : goal.invariant-loop-j
invariant-loop-j l = (l.n ≡ 2 ^ l.b) × (l.n ≤ 128) × (length l.masks ≡ 256) × ((p : ℕ) → p < l.n + l.j → IsMask p (get_or l.masks p 0))
