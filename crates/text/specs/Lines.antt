-- The lines of the text. Each ends in a newline (10).
use Rattle.std.specs.Prelude.{ℕ, ◌+◌, ◌-◌, List, [], ◌∷◌, ◌++◌, eqb}
use Rattle.text.specs.Numbers.{decimal, two_hex}
use Rattle.text.specs.Runs.{Run, runs}

-- `refused `, `status ` and `lines `
abbrev pub refused_word : List ℕ
refused_word = 114 ∷ 101 ∷ 102 ∷ 117 ∷ 115 ∷ 101 ∷ 100 ∷ 32 ∷ []

abbrev pub status_word : List ℕ
status_word = 115 ∷ 116 ∷ 97 ∷ 116 ∷ 117 ∷ 115 ∷ 32 ∷ []

abbrev pub lines_word : List ℕ
lines_word = 108 ∷ 105 ∷ 110 ∷ 101 ∷ 115 ∷ 32 ∷ []

-- `status XX YY`
unfoldable pub status_text : ℕ → ℕ → List ℕ
status_text before after = status_word ++ (two_hex before ++ (32 ∷ (two_hex after ++ (10 ∷ []))))

-- `refused N`
unfoldable pub refused_text : ℕ → List ℕ
refused_text n = refused_word ++ (decimal n ++ (10 ∷ []))

-- A run, with a space before it: ` COUNT*COLOUR`.
unfoldable pub run_text : ℕ → ℕ → List ℕ
run_text count colour = 32 ∷ (decimal count ++ (42 ∷ decimal colour))

unfoldable pub runs_text : List (Run ℕ) → List ℕ
runs_text [] = []
runs_text (r ∷ rs) = run_text r.count r.each ++ runs_text rs

-- `lines A-B`
unfoldable pub bounds_text : ℕ → ℕ → List ℕ
bounds_text a b = lines_word ++ (decimal a ++ (45 ∷ decimal b))

-- The same, and the longest runs of their colours.
unfoldable pub range_text : ℕ → ℕ → List ℕ → List ℕ
range_text a b colours = bounds_text a b ++ (runs_text (runs eqb colours) ++ (10 ∷ []))

-- The ranges from line a on: each is a run of equal lines.
unfoldable pub ranges_text : ℕ → List (Run (List ℕ)) → List ℕ
ranges_text a [] = []
ranges_text a (g ∷ gs) = range_text a (a + g.count - 1) g.each ++ ranges_text (a + g.count) gs
