-- VRAM as the set-ups fill it.
use Rattle.std.specs.Prelude.{ℕ, ◌+◌, ◌*◌, ◌/◌, ◌%◌, List}
use Rattle.std.proofs.lemmas.List.Edits.{sets}

-- VRAM with bytes put in from an address on. What would lie past the end is left out.
unfoldable pub put_from : List ℕ → ℕ → List ℕ → List ℕ
put_from vram at bytes = sets vram at bytes

-- The byte that `mix` puts at place i.
abbrev pub mixed : ℕ → ℕ
mixed i = (i % 251 * 37 + i / 256 * 11) % 256
