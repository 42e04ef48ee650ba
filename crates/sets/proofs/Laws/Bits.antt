-- A number without its lowest bit.
use Rattle.std.proofs.Common.{◌≡◌, ℕ, zero, suc, ◌+◌, ◌-◌, ◌*◌, ◌/◌, ◌%◌, ◌^◌, ◌<◌, ◌≤◌, Bool, true, false, ◌&&◌, eqb, sym, refl, ap, ◌∙◌, suc-le-suc, zero-le, zero-lt-suc, mul_assoc, div-lt_iff_lt-mul, pow-suc, mul-one, arith, pow_pos, shr-shr, eq-eqb}
use native.Mathlib.Decide.{ℕ_discrete}
use lib.Bits.{bit_and}
use lib.Count.{count_trailing_zeros, under}
use lib.Pow.{ones_lt, high, shl-shr}
use Rattle.chip.specs.Bits.{bit}
use Rattle.chip.proofs.Laws.Bits.{bit-and, bit_below}
use Rattle.chip.proofs.Laws.Ranges.{and-false}

-- the lowest bit, once a number is shifted down to it
abbrev odd : ℕ → Bool
odd n = eqb (n % 2) 1

-- A number by its lowest set bit: an odd number, shifted to place t.
pub record Lowest (x t : ℕ) : Type 0 where
  pub half : ℕ
  pub shifted : (half * 2 + 1) * 2 ^ t ≡ x

-- The trailing zeros count to it.
pub lowest : (w x : ℕ) → 0 < x → x < 2 ^ w → Lowest x (count_trailing_zeros w x) × (count_trailing_zeros w x < w)
unfolding count_trailing_zeros
lowest zero x h l = absurd (omega arith)
lowest (suc w) x h l = by (x % 2) refl (λ (even : x % 2 ≡ 0). lowest w (x / 2) (omega arith) ((div-lt_iff_lt-mul (zero-lt-suc 1)).1 (rw (pow-suc 2 w) at l)))
  where
    by : (d : ℕ) → x % 2 ≡ d → (x % 2 ≡ 0 → Lowest (x / 2) (count_trailing_zeros w (x / 2)) × (count_trailing_zeros w (x / 2) < w)) → Lowest x (under d (count_trailing_zeros w (x / 2))) × (under d (count_trailing_zeros w (x / 2)) < suc w)
    by zero e of-half =
        let rest = of-half e in
        let t = count_trailing_zeros w (x / 2) in
        let q = rest.0.half * 2 + 1 in
        let twice : q * 2 ^ suc t ≡ q * 2 ^ t * 2 = ap (λ (p : ℕ). q * p) (pow-suc 2 t) ∙ sym (mul_assoc q (2 ^ t) 2) in
        let whole : x / 2 * 2 ≡ x = omega arith in
        (record { half = rest.0.half; shifted = twice ∙ ap (λ (n : ℕ). n * 2) rest.0.shifted ∙ whole }, suc-le-suc rest.1)
    by (suc d) e of-half =
        let whole : x / 2 * 2 + 1 ≡ x = omega arith in
        (record { half = x / 2; shifted = mul-one (x / 2 * 2 + 1) ∙ whole }, suc-le-suc zero-le)

-- of a number of 32 bits
pub lowest_small : (x : ℕ) → 0 < x → x < 2 ^ 32 → count_trailing_zeros 32 x < 32
lowest_small x h l = (lowest 32 x h l).1

odd-twice : (h : ℕ) → odd (h * 2 + 1) ≡ true
odd-twice h = let one : (h * 2 + 1) % 2 ≡ 1 = omega arith in eq-eqb ((h * 2 + 1) % 2) 1 one

-- numbers that are the same above bit t have the same bits there
same_above : (a b t m : ℕ) → t < m → a / 2 ^ t / 2 ≡ b / 2 ^ t / 2 → bit m a ≡ bit m b
same_above a b t m h same = ap odd (down a ∙ ap (λ (n : ℕ). n / 2 ^ (m - t - 1)) same ∙ sym (down b))
  where
    down : (n : ℕ) → n / 2 ^ m ≡ n / 2 ^ t / 2 / 2 ^ (m - t - 1)
    down n =
        let place : t + (1 + (m - t - 1)) ≡ m = omega arith in
        sym (shr-shr (n / 2 ^ t) 1 (m - t - 1) ∙ shr-shr n t (1 + (m - t - 1)) ∙ ap (λ (k : ℕ). n / 2 ^ k) place)

and_self : (b : Bool) → (b && b) ≡ b
and_self true = refl
and_self false = refl

-- The bits of a number x whose lowest set bit is t.
module _ {x t : ℕ} (low : Lowest x t) where
  pub lowest_set : bit t x ≡ true
  lowest_set = ap (bit t) (sym low.shifted) ∙ ap odd (shl-shr (low.half * 2 + 1) t) ∙ odd-twice low.half

  pub lowest-below : (m : ℕ) → m < t → bit m x ≡ false
  lowest-below m h =
      let e : t ≡ suc (t - m - 1) + m = omega arith in
      ap (bit m) (sym low.shifted) ∙ ap (λ (k : ℕ). bit m ((low.half * 2 + 1) * 2 ^ k)) e ∙ bit_below (t - m - 1) m (low.half * 2 + 1)

  -- one less: the bits above t stay, t is cleared
  less : (x - 1) / 2 ^ t ≡ low.half * 2
  less =
      let n = low.half * 2 in
      let split : (n + 1) * 2 ^ t ≡ n * 2 ^ t + 2 ^ t = omega arith in
      let parts : x - 1 ≡ n * 2 ^ t + (2 ^ t - 1) = omega (arith, low.shifted, pow_pos t) in
      ap (λ (k : ℕ). k / 2 ^ t) parts ∙ high n t (ones_lt t)

  pub cleared : (m : ℕ) → m ≤ t → bit m (bit_and x (x - 1)) ≡ false
  cleared m h = bit-and m x (x - 1) ∙ by (ℕ_discrete m t)
    where
      by : Dec (m ≡ t) → (bit m x && bit m (x - 1)) ≡ false
      by (yes e) =
          let even : low.half * 2 % 2 ≡ 0 = omega arith in
          rw e (ap (λ (b : Bool). bit t x && b) (ap odd less ∙ ap (λ (n : ℕ). eqb n 1) even) ∙ and-false (bit t x))
      by (no other) = ap (λ (b : Bool). b && bit m (x - 1)) (lowest-below m (omega arith))

  pub kept : (m : ℕ) → t < m → bit m (bit_and x (x - 1)) ≡ bit m x
  kept m h =
      let n = low.half in
      let mine : x / 2 ^ t ≡ n * 2 + 1 = ap (λ (k : ℕ). k / 2 ^ t) (sym low.shifted) ∙ shl-shr (n * 2 + 1) t in
      let one_less = less in
      let same : (x - 1) / 2 ^ t / 2 ≡ x / 2 ^ t / 2 = omega arith in
      bit-and m x (x - 1) ∙ ap (λ (b : Bool). bit m x && b) (same_above (x - 1) x t m h same) ∙ and_self (bit m x)
