-- One point from C. The direct call answers two numbers, its colour and its origin: from C there is a call for each.
use Rattle.std.specs.Prelude.{ℕ, List}
use Rattle.point.specs.Calls as direct
use Rattle.birdcleft.specs.Calls.{vram_entry, result_through}

-- The block is lent to read only, so there is a number alone. Its low byte is the colour.
abbrev pub point : List ℕ → List ℕ → ℕ → ℕ → ℕ
point block vram l x = result_through (vram_entry block vram) block (λ c. direct.colour_answer (direct.point c vram l x))

-- Its low byte is the origin's code.
abbrev pub origin : List ℕ → List ℕ → ℕ → ℕ → ℕ
origin block vram l x = result_through (vram_entry block vram) block (λ c. direct.origin_answer (direct.point c vram l x))
