-- Whether a map, or a part of one, has no dirty bit.
use Rattle.std.specs.Prelude.{ℕ, Bool, List, eqb, length, get_or}
use Rattle.chip.specs.Ranges.{all_below}

-- Every byte of it is 0.
unfoldable pub is_clear : List ℕ → Bool
is_clear map = all_below (length map) (λ k. eqb (get_or map k 0) 0)
