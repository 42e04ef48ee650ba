-- A part of the map, and the VRAM bytes whose bits it has.
use Prim.Native.Nat.{ℕ, zero, suc, ◌+◌, ◌-◌, ◌*◌, ◌/◌, ◌%◌, ◌≤◌, ◌<◌}
use native.Mathlib.Nat.{le_step, lt-suc_self}
use native.Mathlib.Omega.{arith}
use mathlib.Core.Path.{◌≡◌, refl, sym, ap, ap₂, ◌∙◌}
use mathlib.Core.Bool.{Bool, true, false, not, ◌&&◌, ◌||◌}
use mathlib.Core.List.{List, [], ◌∷◌}
use lib.Dec.{eqb}
use lib.ListN.{length, get_or, take, drop, length-drop}
use lib.Seq.{get_or-take, get_or-drop, length-take-le}
use Rattle.chip.specs.Bits.{bit}
use Rattle.chip.specs.Map.{is_dirty}
use Rattle.std.specs.List.{list_any}
use Rattle.chip.specs.Ranges.{all_below, any_below}
use Rattle.chip.specs.State.{Bytes}
use Rattle.chip.proofs.Laws.Bits.{bit-zero, any-bit}
use Rattle.chip.proofs.Laws.Ranges.{one_holds, none-holds, any-gives, any-first, any_same}
use Rattle.chip.proofs.Laws.Refusals.{differ}
use Rattle.dirty.specs.Clear.{is_clear}
use Rattle.dirty.specs.Plane.{part_dirty}
use Rattle.dirty.proofs.Laws.Clear.{everywhere}

-- the bytes from a place on
module _ (xs : List ℕ) (from n : ℕ) where
  pub sliced : (i : ℕ) → i < n → get_or (take (from + n - from) (drop from xs)) i 0 ≡ get_or xs (from + i) 0
  sliced i h =
      let inside : i < from + n - from = omega arith in
      rw (get_or-take, get_or-drop)

  pub slice-long : from + n ≤ length xs → length (take (from + n - from) (drop from xs)) ≡ n
  slice-long h = length-take-le _ (drop from xs) (rw length-drop (omega arith)) ∙ omega arith

  -- a test of them
  pub any-sliced : (p : ℕ → Bool) → from + n ≤ length xs → any_below (length (take (from + n - from) (drop from xs))) (λ i. p (get_or (take (from + n - from) (drop from xs)) i 0)) ≡ any_below n (λ i. p (get_or xs (from + i) 0))
  any-sliced p h =
      ap (λ (m : ℕ). any_below m (λ i. p (get_or (take (from + n - from) (drop from xs)) i 0))) (slice-long h)
      ∙ any_same n _ _ (λ i below. ap p (sliced i below))

-- a test of a list's bytes, by their places
pub any-places : (p : ℕ → Bool) (l : List ℕ) → list_any p l ≡ any_below (length l) (λ k. p (get_or l k 0))
unfolding any_below
any-places p [] = refl
any-places p (x ∷ l) = ap (λ (b : Bool). p x || b) (any-places p l) ∙ sym (any-first (length l) (λ k. p (get_or (x ∷ l) k 0)))

-- a byte that is not 0 has one of eight bits
pub some-bit : (x : ℕ) → x < 256 → eqb x 0 ≡ false → (b : Bool) → ((k : ℕ) → k < 8 → bit k x ≡ true → b ≡ true) → b ≡ true
some-bit x h e b f = any-gives 8 (λ k. bit (7 - k) x) b (λ k below is. f (7 - k) (omega arith) is) (any-bit 8 x h ∙ ap not e)

and-true : (a : Bool) → (a && true) ≡ a
and-true true = refl
and-true false = refl

-- a test that does not hold everywhere fails somewhere
not-all : (n : ℕ) (p : ℕ → Bool) → all_below n p ≡ false → (b : Bool) → ((k : ℕ) → k < n → p k ≡ false → b ≡ true) → b ≡ true
not-all zero p e b f = absurd (differ e)
not-all (suc n) p e b f = by (p n) refl (λ fails. not-all n p fails b (λ k below. f k (le_step below)))
  where
    by : (t : Bool) → p n ≡ t → (all_below n p ≡ false → b ≡ true) → b ≡ true
    by true is before = before (sym (ap (λ (t : Bool). all_below n p && t) is ∙ and-true (all_below n p)) ∙ e)
    by false is before = f n (lt-suc_self n) is

-- it is clear where none of them is dirty, and nowhere else
module _ (map : List ℕ) (bytes : Bytes map) (from n : ℕ) (fits : from + n ≤ length map) where
  abbrev part : List ℕ
  part = take n (drop from map)

  in-part : (i : ℕ) → i < n → get_or part i 0 ≡ get_or map (from + i) 0
  in-part i h = rw (get_or-take, get_or-drop)

  -- bit k of byte i of the part
  bit-of : (i k : ℕ) → i < n → k < 8 → is_dirty map (8 * from + (8 * i + k)) ≡ bit k (get_or part i 0)
  bit-of i k h below =
      let at : (8 * from + (8 * i + k)) / 8 ≡ from + i = omega arith in
      let which : (8 * from + (8 * i + k)) % 8 ≡ k = omega arith in
      ap₂ (λ (j a : ℕ). bit j (get_or map a 0)) which at ∙ ap (bit k) (sym (in-part i h))

  pub part-dirty : part_dirty map from n ≡ not (is_clear part)
  unfolding is_clear
  part-dirty = by (is_clear part) refl
    where
      by : (t : Bool) → is_clear part ≡ t → part_dirty map from n ≡ not t
      by true e =
          none-holds (8 * n) (λ i. is_dirty map (8 * from + i))
          (λ i h.
          let parts : 8 * from + i ≡ 8 * from + (8 * (i / 8) + i % 8) = omega arith in
          ap (is_dirty map) parts ∙ bit-of (i / 8) (i % 8) (omega arith) (omega arith) ∙ ap (bit (i % 8)) (everywhere part e (i / 8)) ∙ bit-zero (i % 8))
      by false e =
          let long : length part ≡ n = length-take-le n (drop from map) (rw length-drop (omega arith)) in
          not-all (length part) (λ k. eqb (get_or part k 0) 0) e (part_dirty map from n)
          (λ i h is.
          some-bit (get_or part i 0) (rw (in-part i (omega arith)) (bytes (from + i))) is (part_dirty map from n)
          (λ k below set. one_holds (8 * n) (λ i. is_dirty map (8 * from + i)) (8 * i + k) (omega arith) (bit-of i k (omega arith) below ∙ set)))
