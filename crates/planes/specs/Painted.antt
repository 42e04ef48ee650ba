-- What a function leaves that paints one run of a lent line, pixel by pixel.
use Rattle.std.specs.Prelude.{ℕ, ◌+◌, ◌≤◌, ◌<◌, ◌≡◌, List, length, get_or}

-- width pixels from at on are f's, and all else is as it was.
pub record Painted (new old : List ℕ) (at width : ℕ) (f : ℕ → ℕ) : Type 0 where
  pub long : length new ≡ length old
  pub inside : (k : ℕ) → k < width → get_or new (at + k) 0 ≡ f k
  pub left : (x : ℕ) → x < at → get_or new x 0 ≡ get_or old x 0
  pub right : (x : ℕ) → at + width ≤ x → get_or new x 0 ≡ get_or old x 0
