-- Full draw and refresh from C.
use Rattle.std.specs.Prelude.{ℕ, List}
use Rattle.frame.specs.Calls as direct
use Rattle.birdcleft.specs.Calls.{FromC, vram_entry, through, list_through}

abbrev pub full_draw : List ℕ → List ℕ → List ℕ → List ℕ → List ℕ → FromC
full_draw block vram map frame notes = through (vram_entry block vram) block (λ c. direct.full_draw c vram map frame notes)

abbrev pub full_draw_frame : List ℕ → List ℕ → List ℕ → List ℕ → List ℕ → List ℕ
full_draw_frame block vram map frame notes = list_through (vram_entry block vram) block (λ c. direct.full_draw_frame c vram map frame notes) frame

abbrev pub full_draw_notes : List ℕ → List ℕ → List ℕ → List ℕ → List ℕ → List ℕ
full_draw_notes block vram map frame notes = list_through (vram_entry block vram) block (λ c. direct.full_draw_notes c vram map frame notes) notes

-- A refresh clears the map as a full draw does.
abbrev pub draw_map : List ℕ → List ℕ → List ℕ → List ℕ → List ℕ → List ℕ
draw_map block vram map frame notes = list_through (vram_entry block vram) block (λ c. direct.draw_map c vram map frame notes) map

-- The low byte of the result is the number of redrawn lines.
abbrev pub refresh : List ℕ → List ℕ → List ℕ → List ℕ → List ℕ → FromC
refresh block vram map frame notes = through (vram_entry block vram) block (λ c. direct.refresh c vram map frame notes)

abbrev pub refresh_frame : List ℕ → List ℕ → List ℕ → List ℕ → List ℕ → List ℕ
refresh_frame block vram map frame notes = list_through (vram_entry block vram) block (λ c. direct.refresh_frame c vram map frame notes) frame

abbrev pub refresh_notes : List ℕ → List ℕ → List ℕ → List ℕ → List ℕ → List ℕ
refresh_notes block vram map frame notes = list_through (vram_entry block vram) block (λ c. direct.refresh_notes c vram map frame notes) notes
