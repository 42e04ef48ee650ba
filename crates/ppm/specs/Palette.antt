-- The palette: red, green and blue of the 16 colours, computed from Table 2-3 of the data manual (docs/DECISIONS.md).
use Rattle.std.specs.Prelude.{ℕ, ◌%◌, List, [], ◌∷◌, get_or}

abbrev pub red : List ℕ
red = 0 ∷ 0 ∷ 33 ∷ 94 ∷ 84 ∷ 125 ∷ 212 ∷ 66 ∷ 252 ∷ 255 ∷ 212 ∷ 230 ∷ 33 ∷ 201 ∷ 204 ∷ 255 ∷ []

abbrev pub green : List ℕ
green = 0 ∷ 0 ∷ 200 ∷ 219 ∷ 86 ∷ 118 ∷ 81 ∷ 236 ∷ 85 ∷ 121 ∷ 192 ∷ 205 ∷ 175 ∷ 92 ∷ 204 ∷ 255 ∷ []

abbrev pub blue : List ℕ
blue = 0 ∷ 0 ∷ 66 ∷ 120 ∷ 237 ∷ 252 ∷ 77 ∷ 245 ∷ 84 ∷ 120 ∷ 84 ∷ 128 ∷ 59 ∷ 186 ∷ 204 ∷ 255 ∷ []

abbrev pub rgb_of : ℕ → List ℕ
rgb_of c = get_or red (c % 16) 0 ∷ get_or green (c % 16) 0 ∷ get_or blue (c % 16) 0 ∷ []
