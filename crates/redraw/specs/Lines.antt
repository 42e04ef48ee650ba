-- Lines of 256 bytes, end to end.
use Rattle.std.specs.Prelude.{ℕ, zero, suc, ◌+◌, ◌*◌, Bool, List, [], ◌++◌, take, drop}
use mir.Val.{bool_byte}

-- The lines f 0, f 1, .. f (n - 1), end to end.
unfoldable pub lines_end_to_end : ℕ → (ℕ → List ℕ) → List ℕ
lines_end_to_end zero f = []
lines_end_to_end (suc n) f = lines_end_to_end n f ++ f n

-- The 256 bytes of line l.
abbrev pub line_at : List ℕ → ℕ → List ℕ
line_at frame l = take 256 (drop (256 * l) frame)

-- Of how many numbers below n the test p holds.
unfoldable pub count_below : ℕ → (ℕ → Bool) → ℕ
count_below zero p = 0
count_below (suc n) p = count_below n p + bool_byte (p n)
