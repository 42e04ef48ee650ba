-- What is left of a run at a place. The contract of a private function cites it (src/stretch.rt); no promise of a call rests on it.
use Rattle.std.specs.Prelude.{ℕ, ◌*◌, ◌≡◌, List, drop}
use Rattle.chip.specs.declared.state.Chip.{Chip}
use Rattle.port_log.specs.Records.{records_of}
use Rattle.port_log.specs.Single.{Target, target}
use Rattle.port_log.specs.Run.{End, run_from}

-- The run of record bytes from place i on.
abbrev pub run_rest : List ℕ → ℕ → Target → End
run_rest records i t = run_from i (records_of (drop (2 * i) records)) t

-- That a run from place i on, with state c and these lists, ends as one from place j on with d and those, whatever the slice for
-- lines holds.
abbrev pub EndsAlike : List ℕ → ℕ → Chip → List ℕ → List ℕ → ℕ → Chip → List ℕ → List ℕ → Type 0
EndsAlike records i c vram map j d vram' map' =
    (line : List ℕ) → run_rest records i (target c vram map line) ≡ run_rest records j (target d vram' map' line)
