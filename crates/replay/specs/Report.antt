-- The line that reports a run. It ends in a newline (10).
use Rattle.std.specs.Prelude.{ℕ, List, [], ◌∷◌, ◌++◌}
use Rattle.text.specs.Numbers.{decimal, long_decimal}

-- `done `, ` place ` and ` found `
abbrev pub done_word : List ℕ
done_word = 100 ∷ 111 ∷ 110 ∷ 101 ∷ 32 ∷ []

abbrev pub place_word : List ℕ
place_word = 32 ∷ 112 ∷ 108 ∷ 97 ∷ 99 ∷ 101 ∷ 32 ∷ []

abbrev pub found_word : List ℕ
found_word = 32 ∷ 102 ∷ 111 ∷ 117 ∷ 110 ∷ 100 ∷ 32 ∷ []

-- `done D place P found B`
unfoldable pub report_text : ℕ → ℕ → ℕ → List ℕ
report_text done place found =
    done_word ++ (long_decimal done ++ (place_word ++ (long_decimal place ++ (found_word ++ (decimal found ++ (10 ∷ []))))))
