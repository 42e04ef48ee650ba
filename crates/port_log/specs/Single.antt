-- The single call that a record names: its answer, accepted or refused, and what it leaves, by the definitions that the
-- contracts of the calls cite. A run has no slice for origins, and draws a line by its colours alone: that is the single call but for
-- the origins.
use Rattle.std.specs.Prelude.{ℕ, List}
use Rattle.chip.specs.Calls.{control_write, data_write, data_write_vram, data_write_map, data_read, status_read, end_of_display, reset}
use Rattle.chip.specs.declared.state.Chip.{Chip}
use Rattle.chip.specs.declared.refusal.Answer.{Answer}
use Rattle.scanline.specs.Colours.{draw_colours, draw_colours_line}
use Rattle.port_log.specs.Records.{operation_of}
use Rattle.port_log.specs.declared.records.Operation.{Operation}
use Rattle.port_log.specs.declared.records.Operation.TheVariants.{DataWrite, ControlWrite, DataRead, StatusRead, DrawLine, EndOfDisplay, Reset}
use Rattle.port_log.specs.declared.records.Record.{Record}

-- What the calls of a run work on: the state, VRAM, the map, and the slice that lines are drawn into.
pub record Target : Type 0 where
  pub chip : Chip
  pub vram : List ℕ
  pub map : List ℕ
  pub line : List ℕ

abbrev pub target : Chip → List ℕ → List ℕ → List ℕ → Target
target c vram map line = record { chip = c; vram = vram; map = map; line = line }

unfoldable pub answer_by : Operation → ℕ → Target → Answer
answer_by DataWrite v t = data_write t.chip t.vram t.map v
answer_by ControlWrite v t = control_write t.chip t.vram v
answer_by DataRead v t = data_read t.chip t.vram
answer_by StatusRead v t = status_read t.chip
answer_by DrawLine v t = draw_colours t.chip t.vram t.line v
answer_by EndOfDisplay v t = end_of_display t.chip
answer_by Reset v t = reset t.chip

-- A data write changes VRAM and map, and a line goes into the line slice.
unfoldable pub vram_by : Operation → ℕ → Target → List ℕ
vram_by DataWrite v t = data_write_vram t.chip t.vram t.map v
vram_by ControlWrite v t = t.vram
vram_by DataRead v t = t.vram
vram_by StatusRead v t = t.vram
vram_by DrawLine v t = t.vram
vram_by EndOfDisplay v t = t.vram
vram_by Reset v t = t.vram

unfoldable pub map_by : Operation → ℕ → Target → List ℕ
map_by DataWrite v t = data_write_map t.chip t.vram t.map
map_by ControlWrite v t = t.map
map_by DataRead v t = t.map
map_by StatusRead v t = t.map
map_by DrawLine v t = t.map
map_by EndOfDisplay v t = t.map
map_by Reset v t = t.map

unfoldable pub line_by : Operation → ℕ → Target → List ℕ
line_by DataWrite v t = t.line
line_by ControlWrite v t = t.line
line_by DataRead v t = t.line
line_by StatusRead v t = t.line
line_by DrawLine v t = draw_colours_line t.chip t.vram t.line v
line_by EndOfDisplay v t = t.line
line_by Reset v t = t.line

-- The call of a record, and the target after it.
abbrev pub answer_to : Record → Target → Answer
answer_to r t = answer_by (operation_of r.operation) r.value t

abbrev pub after : Record → Target → Target
after r t =
    let op = operation_of r.operation in
    target (answer_to r t).chip (vram_by op r.value t) (map_by op r.value t) (line_by op r.value t)
