-- The calls that demand 3 names, each direct or from C, and what each is lent.
use Rattle.std.specs.Prelude.{ℕ, ◌≡◌, List, length}
use Rattle.chip.specs.State.{vram_size}
use Rattle.chip.specs.Map.{map_size}
use Rattle.chip.specs.Layout.{block_size}
use Rattle.frame.specs.Lines.{frame_size, notes_size}

-- A call with what is its own: bytes written, the slices for a line and its origins and the line's number, a point's line and
-- column, a snapshot, a log. (For a run of a log: the slice for lines, the log, and the slice for the outcome, which is lent from C
-- alone. A point answers two numbers, its colour and its origin: from C each has a call, and so there are two here.)
pub data Op : Type 0 where
  power_up : Op
  control_write : ℕ → Op
  data_write : ℕ → Op
  data_read : Op
  status_read : Op
  end_of_display : Op
  interrupt_line : Op
  reset : Op
  draw_line : List ℕ → List ℕ → ℕ → Op
  point : ℕ → ℕ → Op
  origin : ℕ → ℕ → Op
  full_draw : Op
  refresh : Op
  read_snapshot : List ℕ → Op
  write_snapshot : List ℕ → Op
  run_log : List ℕ → List ℕ → List ℕ → Op

-- What is lent in place of a list of n bytes: the bench's own, or another list of the wrong length.
pub data Lent (n : ℕ) : Type 0 where
  own : Lent n
  other : (l : List ℕ) → (length l ≡ n → ⊥) → Lent n

-- What is lent in place of each of the bench's lists. A call looks only at those that it takes.
pub record LentLists : Type 0 where
  pub vram : Lent vram_size
  pub map : Lent map_size
  pub frame : Lent frame_size
  pub notes : Lent notes_size

-- A call is made directly, or from C with a block as the state.
pub data Caller : Type 0 where
  direct : Caller
  from_c : Lent block_size → Caller

pub record Call : Type 0 where
  pub op : Op
  pub caller : Caller
  pub lists : LentLists

-- The call that is lent all that is the bench's.
abbrev pub whole : Op → Caller → Call
whole op caller = record { op = op; caller = caller; lists = record { vram = own; map = own; frame = own; notes = own } }

-- The same call, made by another caller.
abbrev pub made_by : Caller → Call → Call
made_by caller call = record { op = call.op; caller = caller; lists = call.lists }
