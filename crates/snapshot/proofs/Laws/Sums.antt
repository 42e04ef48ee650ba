-- Sums of bytes.
use Rattle.std.proofs.Common.{◌≡◌, ℕ, ◌+◌, ◌%◌, ◌<◌, List, [], ◌∷◌, arith, lit<}
use Rattle.std.specs.List.{fold}
use Rattle.snapshot.specs.Format.{sum, checksum}

-- bytes added one after another, with 65,536 taken off as often as it can be
added : (l : List ℕ) (t : ℕ) → t < 65536 → fold (λ a b. (a + b) % 65536) t l ≡ (t + sum l) % 65536
added [] t h = omega arith
added (b ∷ l) t h = let rest = added l ((t + b) % 65536) (omega arith) in omega arith

pub summed : (l : List ℕ) → fold (λ a b. (a + b) % 65536) 0 l ≡ checksum l
summed l = let all = added l 0 (lit< tt) in omega arith
