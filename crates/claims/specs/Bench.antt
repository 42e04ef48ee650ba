-- The bench of demand 3: the state and the four lists that its calls are lent.
use Rattle.std.specs.Prelude.{ℕ, ◌≡◌, List, length}
use Rattle.chip.specs.State.{vram_size, Bytes, Fits}
use Rattle.chip.specs.Map.{map_size}
use Rattle.chip.specs.declared.state.Chip.{Chip}
use Rattle.frame.specs.Lines.{frame_size, notes_size}

pub record Bench : Type 0 where
  pub chip : Chip
  pub vram : List ℕ
  pub map : List ℕ
  pub frame : List ℕ
  pub notes : List ℕ

-- The four lists have their lengths.
pub record Lengths (b : Bench) : Type 0 where
  pub vram : length b.vram ≡ vram_size
  pub map : length b.map ≡ map_size
  pub frame : length b.frame ≡ frame_size
  pub notes : length b.notes ≡ notes_size

-- The values of the state fit their types, and VRAM holds bytes.
pub record Typed (b : Bench) : Type 0 where
  pub chip : Fits b.chip
  pub vram : Bytes b.vram
