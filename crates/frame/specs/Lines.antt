-- A frame as 192 lines of 256 bytes.
use Rattle.std.specs.Prelude.{ℕ}
pub use Rattle.redraw.specs.Lines.{line_at}
unfoldable pub use Rattle.redraw.specs.Lines.{lines_end_to_end, count_below}

abbrev pub line_count : ℕ
line_count = 192

abbrev pub frame_size : ℕ
frame_size = 49152

abbrev pub notes_size : ℕ
notes_size = 192
