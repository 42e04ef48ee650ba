-- The round trips between a number and its two bytes.
use Prim.Native.Nat.{ℕ, zero, suc, ◌+◌, ◌*◌, ◌/◌, ◌%◌, ◌<◌}
use native.Mathlib.Omega.{arith}
use native.Mathlib.Nat.{mod-add-div}
use mathlib.Core.Path.{◌≡◌, ap₂, ◌∙◌}
use mathlib.Core.List.{List, [], ◌∷◌}
use lib.Dec.{lit<}
use lib.ListN.{get_or}
use Rattle.chip.specs.TwoBytes.{low_first, low_first_at}
use Rattle.chip.specs.State.{Bytes}

-- Where a number's two bytes stand, they hold the number.
pub low-first-is : (l : List ℕ) (i n : ℕ) → get_or l i 0 ≡ n % 256 → get_or l (i + 1) 0 ≡ n / 256 → low_first_at l i ≡ n
low-first-is l i n low high = ap₂ (λ (x y : ℕ). x + 256 * y) low high ∙ mod-add-div n 256

-- The number that two bytes hold has these as its own.
pub low-first-back : (l : List ℕ) → Bytes l → (i : ℕ) → low_first (low_first_at l i) ≡ get_or l i 0 ∷ get_or l (i + 1) 0 ∷ []
low-first-back l bytes i =
    let low : low_first_at l i % 256 ≡ get_or l i 0 = omega (arith, bytes i, bytes (i + 1)) in
    let high : low_first_at l i / 256 ≡ get_or l (i + 1) 0 = omega (arith, bytes i, bytes (i + 1)) in
    λ k. low k ∷ high k ∷ []

-- Two bytes as `to_le_bytes` gives them.
pub low-first-two : (n : ℕ) → n < 65536 → n % 256 ∷ n / 256 % 256 ∷ [] ≡ low_first n
low-first-two n h = let high : n / 256 % 256 ≡ n / 256 = omega arith in λ i. n % 256 ∷ high i ∷ []

-- It fits two bytes, and a number that does has two.
pub low-first-small : (l : List ℕ) → Bytes l → (i : ℕ) → low_first_at l i < 65536
low-first-small l bytes i = omega (arith, bytes i, bytes (i + 1))

pub bytes_low_first : (n : ℕ) → n < 65536 → Bytes (low_first n)
bytes_low_first n h zero = omega arith
bytes_low_first n h (suc zero) = omega arith
bytes_low_first n h (suc (suc i)) = lit< tt
