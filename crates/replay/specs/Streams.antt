-- What `replay` writes on standard output and on standard error, for any bytes that came in.
use Rattle.std.specs.Prelude.{ℕ, List, [], length, take, drop, replicate}
use Rattle.chip.specs.State.{power_up_state}
use Rattle.chip.specs.Map.{map_size}
use Rattle.chip.specs.Ports.{cleared_vram}
use Rattle.chip.specs.Refusals.{Outcome, number_of, if_accepted}
use Rattle.chip.specs.declared.state.Chip.{Chip}
use Rattle.scanline.specs.Calls.{line_size}
use Rattle.snapshot.specs.Format.{snapshot_size, snapshot_of}
use Rattle.snapshot.specs.Calls.{read_refusal, read_snapshot, read_vram}
use Rattle.port_log.specs.Run.{run_refusal, run_log, run_vram, end_of, reached_of}
use Rattle.port_log.specs.declared.running.Reached.{Reached}
use Rattle.port_log.specs.declared.running.Ran.{Ran}
use Rattle.text.specs.Lines.{refused_text}
use Rattle.replay.specs.Report.{report_text}
use Rattle.replay.specs.declared.streams.Written.{Written}

-- The input is a snapshot, and then a log.
abbrev pub snapshot_part : List ℕ → List ℕ
snapshot_part input = take snapshot_size input

abbrev pub log_part : List ℕ → List ℕ
log_part input = drop snapshot_size input

-- The state and VRAM that the run starts from.
abbrev pub start_state : List ℕ → Chip
start_state input = (read_snapshot power_up_state cleared_vram (snapshot_part input)).chip

abbrev pub start_vram : List ℕ → List ℕ
start_vram input = read_vram cleared_vram (snapshot_part input)

-- The run, with a clear map and a clear slice for lines, and VRAM after it.
abbrev pub clear_list : ℕ → List ℕ
clear_list n = replicate n 0

abbrev pub ran : List ℕ → Ran
ran input = run_log (start_state input) (start_vram input) (clear_list map_size) (clear_list line_size) (log_part input)

abbrev pub vram_after : List ℕ → List ℕ
vram_after input = run_vram (start_state input) (start_vram input) (clear_list map_size) (clear_list line_size) (log_part input)

-- The snapshot's refusal, and then that of the run.
abbrev pub snapshot_refusal : List ℕ → Outcome
snapshot_refusal input = read_refusal cleared_vram (snapshot_part input)

abbrev pub refusal_of_run : List ℕ → Outcome
refusal_of_run input = run_refusal (start_state input) (start_vram input) (clear_list map_size) (clear_list line_size) (log_part input)

unfoldable pub replay_refusal : List ℕ → Outcome
replay_refusal input = if_accepted (snapshot_refusal input) (refusal_of_run input) (snapshot_refusal input)

-- Both streams: the snapshot after the run and the run's report; or nothing and the line of the refusal.
pub record Streams : Type 0 where
  pub output : List ℕ
  pub errors : List ℕ

-- How far the run came, where it is accepted.
abbrev pub reached : List ℕ → Reached
reached input = reached_of (end_of (start_state input) (start_vram input) (clear_list map_size) (clear_list line_size) (log_part input))

abbrev pub report_of : Reached → List ℕ
report_of r = report_text r.done r.place r.found

abbrev pub after_run : List ℕ → Streams
after_run input = record { output = snapshot_of (ran input).chip (vram_after input); errors = report_of (reached input) }

abbrev pub after_refusal : Outcome → Streams
after_refusal r = record { output = []; errors = refused_text (number_of r) }

unfoldable pub replayed : List ℕ → Streams
replayed input = if_accepted (replay_refusal input) (after_run input) (after_refusal (replay_refusal input))

-- How many bytes each stream gets.
abbrev pub written_of : Streams → Written
written_of s = record { output = length s.output; errors = length s.errors }
