-- The whole output, from the bytes of a file.
use Rattle.std.specs.Prelude.{ℕ, List, [], ◌∷◌, ◌++◌}
use Rattle.chip.specs.declared.state.Chip.{Chip}
use Rattle.frame.specs.Draw.{frame_of}
use Rattle.text.specs.Output.{output_of}
use Rattle.ppm.specs.Palette.{rgb_of}

-- The pixels of colours, in order.
unfoldable pub painted : List ℕ → List ℕ
painted [] = []
painted (c ∷ l) = rgb_of c ++ painted l

-- The header of a binary PPM: `P6`, `256 192` and `255`, each with a newline behind it.
abbrev pub header : List ℕ
header = 80 ∷ 54 ∷ 10 ∷ 50 ∷ 53 ∷ 54 ∷ 32 ∷ 49 ∷ 57 ∷ 50 ∷ 10 ∷ 50 ∷ 53 ∷ 53 ∷ 10 ∷ []

-- The picture: the header, then the pixels of the frame that a full draw leaves.
unfoldable pub picture_of : Chip → List ℕ → List ℕ
picture_of c vram = header ++ painted (frame_of c.registers vram)

-- What `picture` writes, for any bytes that came in: the picture of the state and VRAM that they hold, or the refusal.
abbrev pub picture_output : List ℕ → List ℕ
picture_output file = output_of picture_of file
