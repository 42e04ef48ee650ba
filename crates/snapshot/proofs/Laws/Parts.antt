-- The parts of a snapshot.
use Rattle.std.proofs.Common.{◌≡◌, ℕ, ◌+◌, ◌-◌, ◌≤◌, List, ◌++◌, length, take, drop, append_assoc, arith, length-append, length-drop, length-take-le}
use Rattle.chip.specs.Layout.{encoded}
use Rattle.chip.specs.declared.state.Chip.{Chip}
use Rattle.chip.proofs.Laws.Layout.{length-encoded}
use Rattle.snapshot.specs.Format.{pointers}
use Rattle.snapshot.specs.Tests.{trailer_at, state_bytes, vram_bytes}

pub regroup : (a b c d : List ℕ) → ((a ++ b) ++ c) ++ d ≡ a ++ (b ++ (c ++ d))
regroup a b c d = simp append_assoc

length_part : (s : List ℕ) (k n : ℕ) → k + n ≤ length s → length (take n (drop k s)) ≡ n
length_part s k n h = length-take-le n (drop k s) (rw length-drop (omega arith))

-- the parts of a file
module _ (s : List ℕ) (whole : length s ≡ 16406) where
  pub length-state : length (state_bytes s) ≡ 14
  unfolding state_bytes
  length-state = length_part s (trailer_at s - 14) 14 (omega arith)

  pub length-vram : length (vram_bytes s) ≡ 16384
  unfolding vram_bytes
  length-vram = length_part s (trailer_at s - 16398) 16384 (omega arith)

pub ruleset parts = (length-state, length-vram)

-- what stands before the trailer, and before the sum, of a state's snapshot
module _ (c : Chip) (eight : length c.registers ≡ 8) (vram : List ℕ) (long : length vram ≡ 16384) where
  pub before-trailer : length (vram ++ encoded c) ≡ 16398
  before-trailer = rw (length-append, long, length-encoded c eight)

  pub before-sum : length ((vram ++ encoded c) ++ pointers) ≡ 16404
  before-sum = rw (length-append, before-trailer)
