-- The snapshot calls from C.
use Rattle.std.specs.Prelude.{ℕ, List}
use Rattle.snapshot.specs.Calls as direct
use Rattle.birdcleft.specs.Calls.{FromC, vram_entry, result_through, through, list_through}

-- Reading replaces the state, and so takes a block of any 17 bytes.
abbrev pub read_snapshot : List ℕ → List ℕ → List ℕ → FromC
read_snapshot block vram s = through (vram_entry block vram) block (λ c. direct.read_snapshot c vram s)

abbrev pub read_vram : List ℕ → List ℕ → List ℕ → List ℕ
read_vram block vram s = list_through (vram_entry block vram) block (λ c. direct.read_vram vram s) vram

-- The block is lent to read only, so there is a number alone.
abbrev pub write_snapshot : List ℕ → List ℕ → List ℕ → ℕ
write_snapshot block vram out = result_through (vram_entry block vram) block (λ c. direct.write_snapshot c vram out)

abbrev pub written : List ℕ → List ℕ → List ℕ → List ℕ
written block vram out = list_through (vram_entry block vram) block (λ c. direct.written c vram out) out
