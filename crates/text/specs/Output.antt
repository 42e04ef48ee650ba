-- The whole output of a program that shows a snapshot, for any bytes that came in.
use Rattle.std.specs.Prelude.{ℕ, List}
use Rattle.chip.specs.State.{power_up_state}
use Rattle.chip.specs.Ports.{cleared_vram}
use Rattle.chip.specs.Refusals.{number_of, if_accepted}
use Rattle.chip.specs.declared.state.Chip.{Chip}
use Rattle.snapshot.specs.Calls.{read_refusal, read_snapshot, read_vram}
use Rattle.text.specs.Lines.{refused_text}
use Rattle.text.specs.Show.{show_text}

-- The file is read from the power-up state into cleared VRAM. If that is refused, the line of the refusal is written.
-- Otherwise state and VRAM are shown, in a way that is given.
unfoldable pub output_of : (Chip → List ℕ → List ℕ) → List ℕ → List ℕ
output_of shown file =
    if_accepted (read_refusal cleared_vram file)
    (shown (read_snapshot power_up_state cleared_vram file).chip (read_vram cleared_vram file))
    (refused_text (number_of (read_refusal cleared_vram file)))

-- What `show` writes.
abbrev pub show_output : List ℕ → List ℕ
show_output file = output_of show_text file
