-- The names of the 16 colours, in the order of Table 2-3 of the data manual, as characters.
use Rattle.std.specs.Prelude.{ℕ, ◌%◌, List, [], ◌∷◌, ◌++◌, get_or}

-- `transparent` and `black`
abbrev pub transparent : List ℕ
transparent = 116 ∷ 114 ∷ 97 ∷ 110 ∷ 115 ∷ 112 ∷ 97 ∷ 114 ∷ 101 ∷ 110 ∷ 116 ∷ []

abbrev pub black : List ℕ
black = 98 ∷ 108 ∷ 97 ∷ 99 ∷ 107 ∷ []

-- `medium `, `light ` and `dark `, each with the blank behind it
abbrev pub medium : List ℕ
medium = 109 ∷ 101 ∷ 100 ∷ 105 ∷ 117 ∷ 109 ∷ 32 ∷ []

abbrev pub light : List ℕ
light = 108 ∷ 105 ∷ 103 ∷ 104 ∷ 116 ∷ 32 ∷ []

abbrev pub dark : List ℕ
dark = 100 ∷ 97 ∷ 114 ∷ 107 ∷ 32 ∷ []

-- `green`, `blue`, `red` and `yellow`
abbrev pub green : List ℕ
green = 103 ∷ 114 ∷ 101 ∷ 101 ∷ 110 ∷ []

abbrev pub blue : List ℕ
blue = 98 ∷ 108 ∷ 117 ∷ 101 ∷ []

abbrev pub red : List ℕ
red = 114 ∷ 101 ∷ 100 ∷ []

abbrev pub yellow : List ℕ
yellow = 121 ∷ 101 ∷ 108 ∷ 108 ∷ 111 ∷ 119 ∷ []

-- `cyan`, `magenta`, `gray` and `white`
abbrev pub cyan : List ℕ
cyan = 99 ∷ 121 ∷ 97 ∷ 110 ∷ []

abbrev pub magenta : List ℕ
magenta = 109 ∷ 97 ∷ 103 ∷ 101 ∷ 110 ∷ 116 ∷ 97 ∷ []

abbrev pub gray : List ℕ
gray = 103 ∷ 114 ∷ 97 ∷ 121 ∷ []

abbrev pub white : List ℕ
white = 119 ∷ 104 ∷ 105 ∷ 116 ∷ 101 ∷ []

abbrev pub names : List (List ℕ)
names =
    transparent
    ∷ black
    ∷ (medium ++ green)
    ∷ (light ++ green)
    ∷ (dark ++ blue)
    ∷ (light ++ blue)
    ∷ (dark ++ red)
    ∷ cyan
    ∷ (medium ++ red)
    ∷ (light ++ red)
    ∷ (dark ++ yellow)
    ∷ (light ++ yellow)
    ∷ (dark ++ green)
    ∷ magenta
    ∷ gray
    ∷ white
    ∷ []

unfoldable pub name_of : ℕ → List ℕ
name_of c = get_or names (c % 16) []
