-- A sprite put into the sets of a run of lines.
use Rattle.std.proofs.Common.{◌≡◌, ℕ, ◌+◌, ◌-◌, ◌%◌, ◌<◌, ◌≤◌, cond, ltb, List, ◌++◌, length, get_or, take, drop, set, ap, ◌∙◌, arith, length-drop, length-set, length-take, get_or-drop, get_or-set_other, get_or-take, le-ltb, lt-ltb}
use native.Mathlib.Decide.{dec_lt}
use lib.Bits.{bit_or}
use Rattle.chip.proofs.Laws.Lists.{Filled, filled_more}
use Rattle.chip.proofs.Laws.Stored.{stored-long, stored-left, stored-inside, stored-right}
use Rattle.sprites.specs.Shape.{row_offset}
use Rattle.sets.proofs.Laws.Added.{Added}

-- The run's sets after its first i lines, where `one` is the sprite's bit.
pub record Run (old part : List ℕ) (one i : ℕ) : Type 0 where
  pub long : length part ≡ length old
  pub done : Filled part (λ k. bit_or (get_or old k 0) one) i
  pub rest : (k : ℕ) → i ≤ k → get_or part k 0 ≡ get_or old k 0

pub run_more : {old part : List ℕ} {one i : ℕ} → i < length part → Run old part one i → Run old (set part i (bit_or (get_or part i 0) one)) one (i + 1)
run_more {old} {part} {one} {i} h before =
    let x : ℕ = bit_or (get_or part i 0) one in
    record {
      long = length-set part i x ∙ before.long;
      done = filled_more x h (ap (λ (n : ℕ). bit_or n one) (before.rest i (omega arith))) before.done;
      rest = λ k above. get_or-set_other part i k x 0 (λ e. omega arith) ∙ before.rest k (omega arith);
    }

-- The d lines from `first` on, the one below y, are the sprite's, where none of them is over the bottom edge.
module _ (old part : List ℕ) (y one first d w : ℕ) (small : y < 256) (below : first ≡ (y + 1) % 256) (low : first + d ≤ 192) (all : length old ≡ 192) (ew : w ≡ d) (long : length part ≡ length (take w (drop first old))) (each : (i : ℕ) → i < length (take w (drop first old)) → get_or part i 0 ≡ bit_or (get_or (take w (drop first old)) i 0) one) where
  abbrev now : List ℕ
  now = take first old ++ (part ++ drop w (drop first old))

  wide : length (take w (drop first old)) ≡ d
  wide = simp (length-take, length-drop) (omega arith)

  room : first + d ≤ length old
  room = omega arith

  inside : (m : ℕ) → first ≤ m → m < first + d → get_or now m 0 ≡ bit_or (get_or old m 0) one
  inside m above under =
      let k : ℕ = m - first in
      let at : first + k ≡ m = omega arith in
      rw at
      at (stored-inside old part first d w (long ∙ wide) room ew k (omega arith)
      ∙ each k (omega (arith, wide))
      ∙ ap (λ (n : ℕ). bit_or n one) (get_or-take w (drop first old) k 0 (omega arith) ∙ get_or-drop first old k 0))

  pub added-run : Added old now y one d
  added-run = record { long = stored-long old part first d w (long ∙ wide) room ew; line = λ m h. by m h (dec_lt m first) (dec_lt m (first + d)) }
    where
      by : (m : ℕ) → m < 192 → Dec (m < first) → Dec (m < first + d) → get_or now m 0 ≡ cond (ltb (row_offset m y) d) (bit_or (get_or old m 0) one) (get_or old m 0)
      by m h (yes before) under = rw (le-ltb (row_offset m y) d (omega arith)) (stored-left old part first d w (long ∙ wide) room ew m before)
      by m h (no from) (yes under) = rw (lt-ltb (row_offset m y) d (omega arith)) (inside m (omega arith) under)
      by m h (no from) (no behind) = rw (le-ltb (row_offset m y) d (omega arith)) (stored-right old part first d w (long ∙ wide) room ew m (omega arith))
