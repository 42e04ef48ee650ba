-- What can hold after a call.
use Rattle.std.specs.Prelude.{ℕ, ◌<◌, ◌≡◌, Bool, true, false, ◌&&◌, ◌||◌, List, [], ◌∷◌, ◌++◌, length, get_or, replicate, Ok}
use Rattle.chip.specs.State.{well_formed}
use Rattle.chip.specs.Map.{map_size}
use Rattle.chip.specs.Refusals.{number_of, refusal_of}
use Rattle.scanline.specs.Calls.{note_at, colours}
use Rattle.frame.specs.Lines.{line_count, frame_size, notes_size, line_at}
use Rattle.frame.specs.Due.{due, due_count}
use Rattle.claims.specs.Bench.{Bench, Lengths, Typed}
use Rattle.claims.specs.Call.{Op, full_draw, refresh, Lent, own, other, LentLists, Caller, direct, from_c, Call, whole}
use Rattle.claims.specs.Description.{Takes, Description}
use Rattle.claims.specs.Descriptions.{described}
use Rattle.claims.specs.Step.{Step, step}

-- The step of a refused call: the bench is as it was, the slices are as lent, and every number answered is 0.
abbrev pub refused_step : Description → ℕ → Bench → Step
refused_step d n b = record { bench = b; reply = record { refusal = n; values = replicate d.numbers 0; slices = d.brings.slices } }

-- A call left all as it was.
abbrev pub LeftAsLent : Bench → Call → Step → Type 0
LeftAsLent b call s = s ≡ refused_step (described call.op) s.reply.refusal b

-- Whether another list of the wrong length was lent in place of the block or of a list that the call takes.
module _ {n : ℕ} where
  abbrev pub is_other : Lent n → Bool
  is_other own = false
  is_other (other k wrong) = true

abbrev pub other_block : Caller → Bool
other_block direct = false
other_block (from_c block) = is_other block

abbrev pub other_list : Takes → LentLists → Bool
other_list takes lists =
    takes.vram && is_other lists.vram
    || takes.map && is_other lists.map
    || takes.frame && is_other lists.frame
    || takes.notes && is_other lists.notes

abbrev pub wrongly_lent : Call → Bool
wrongly_lent call = other_block call.caller || other_list (described call.op).takes call.lists

-- That the numbers of a call fit where its caller has them: a direct call hands them back as they are.
abbrev pub FitNumbers : Caller → Description → List ℕ → Type 0
FitNumbers direct d vram = Unit {0}
FitNumbers (from_c block) d vram = d.from_c.NumbersFit vram

-- What there is to a call from C alone is right: a slice for numbers passes its tests, and the numbers fit into their bytes. (Of
-- every call but the run of a log and the colour of a point this asks nothing.)
abbrev pub RightFromC : Op → List ℕ → Type 0
RightFromC op vram = (refusal_of (described op).from_c.tests ≡ Ok tt) × (described op).from_c.NumbersFit vram

-- A bench in order: its state is well-formed, all values fit their types and all lists have their lengths. So a call that
-- is lent the bench's lists is refused only by the tests of what it brings, and from C by those of what is lent from C alone.
abbrev pub InOrder : Bench → Type 0
InOrder b =
    (well_formed b.chip ≡ true)
    × Typed b
    × Lengths b
    × ((op : Op) → let own-tests = (described op).brings.tests b.chip in ((step b (whole op direct)).reply.refusal ≡ number_of (refusal_of own-tests)) × ((described op).from_c.NumbersFit b.vram → (step b (whole op (from_c own))).reply.refusal ≡ number_of (refusal_of ((described op).from_c.tests ++ own-tests))))

-- Every refresh of b that is accepted, called directly or from C, leaves the same bench (state, VRAM, map, frame and notes) as a
-- full draw from the same state and VRAM into any map, frame and notes of the right lengths; and that full draw is accepted.
abbrev pub RefreshIsFullDraw : Bench → Type 0
RefreshIsFullDraw b =
    (last : Call) → last.op ≡ refresh → (step b last).reply.refusal ≡ 0
    → (map frame notes : List ℕ) → length map ≡ map_size → length frame ≡ frame_size → length notes ≡ notes_size
    → let full = step (record { chip = b.chip; vram = b.vram; map = map; frame = frame; notes = notes }) (whole full_draw direct) in
    (full.reply.refusal ≡ 0) × ((step b last).bench ≡ full.bench)

-- What an accepted refresh of b does, whatever bytes frame, notes and map hold: it answers how many lines are due; a due line
-- gets the 256 bytes and the note of a full draw, and every other keeps both.
pub record RefreshesDueLines (b : Bench) (s : Step) : Type 0 where
  pub count : s.reply.values ≡ due_count b.chip.redraw b.chip.registers b.vram b.map ∷ []
  pub kept : (l : ℕ) → l < line_count → due b.chip.redraw b.chip.registers b.vram b.map l ≡ false
      → (line_at s.bench.frame l ≡ line_at b.frame l) × (get_or s.bench.notes l 0 ≡ get_or b.notes l 0)
  pub redrawn : (l : ℕ) → l < line_count → due b.chip.redraw b.chip.registers b.vram b.map l ≡ true
      → (line_at s.bench.frame l ≡ colours b.chip.registers b.vram l) × (get_or s.bench.notes l 0 ≡ note_at b.chip.registers b.vram l)
