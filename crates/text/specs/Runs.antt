-- Equal neighbours joined: colours of a line into runs, and lines of a picture into ranges.
use Rattle.std.specs.Prelude.{ℕ, ◌+◌, Bool, true, false, cond, ◌&&◌, List, [], ◌∷◌, eqb}

-- So many neighbours that are each the same.
pub record Run (A : Type 0) : Type 0 where
  pub count : ℕ
  pub each : A

module _ {A : Type 0} (same : A → A → Bool) where
  -- The longest runs where a list goes on after k times y: a run ends where another follows, or the list ends.
  unfoldable pub runs_after : ℕ → A → List A → List (Run A)
  runs_after k y [] = record { count = k; each = y } ∷ []
  runs_after k y (x ∷ l) = cond (same y x) (runs_after (k + 1) y l) (record { count = k; each = y } ∷ runs_after 1 x l)

  -- The longest runs of a list.
  unfoldable pub runs : List A → List (Run A)
  runs [] = []
  runs (x ∷ l) = runs_after 1 x l

-- Whether two lines have the same colours.
unfoldable pub same : List ℕ → List ℕ → Bool
same [] [] = true
same [] (y ∷ m) = false
same (x ∷ l) [] = false
same (x ∷ l) (y ∷ m) = eqb x y && same l m
