-- Drawing a line from C.
use Rattle.std.specs.Prelude.{ℕ, List}
use Rattle.scanline.specs.Calls as direct
use Rattle.birdcleft.specs.Calls.{FromC, vram_entry, through, list_through}

abbrev pub draw_line : List ℕ → List ℕ → List ℕ → List ℕ → ℕ → FromC
draw_line block vram line codes l = through (vram_entry block vram) block (λ c. direct.draw_line c vram line codes l)

abbrev pub draw_line_line : List ℕ → List ℕ → List ℕ → List ℕ → ℕ → List ℕ
draw_line_line block vram line codes l = list_through (vram_entry block vram) block (λ c. direct.draw_line_line c vram line codes l) line

abbrev pub draw_line_origins : List ℕ → List ℕ → List ℕ → List ℕ → ℕ → List ℕ
draw_line_origins block vram line codes l = list_through (vram_entry block vram) block (λ c. direct.draw_line_origins c vram line codes l) codes
