-- Output that is written piece by piece.
use Rattle.std.specs.Prelude.{ℕ, zero, suc, Bool, true, false, cond, List, [], ◌++◌, length}
use Rattle.text.specs.declared.pieces.Piece.{Piece}

-- What a step does: the bytes that it writes, the walk behind them, and whether they are the last.
pub record Step (W : Type 0) : Type 0 where
  pub bytes : List ℕ
  pub walk : W
  pub last : Bool

-- What several steps write, end to end, and whether the last piece is among it.
pub record Output : Type 0 where
  pub bytes : List ℕ
  pub whole : Bool

module _ {W : Type 0} where
  -- What a call answers of a step.
  abbrev pub piece_of : Step W → Piece W
  piece_of s = record { walk = s.walk; written = length s.bytes; last = s.last }

  -- Nothing is written, and nothing follows.
  abbrev pub writes_nothing : W → Step W
  writes_nothing w = record { bytes = []; walk = w; last = true }

  -- A step's piece, and what is written behind it: nothing, if the piece is the last.
  abbrev pub ahead : Step W → Output → Output
  ahead s rest = record { bytes = s.bytes ++ cond s.last [] rest.bytes; whole = cond s.last true rest.whole }

  -- The steps from a walk on until the last piece, and at most n of them.
  unfoldable pub steps_from : (W → Step W) → ℕ → W → Output
  steps_from step zero w = record { bytes = []; whole = false }
  steps_from step (suc n) w = ahead (step w) (steps_from step n (step w).walk)
