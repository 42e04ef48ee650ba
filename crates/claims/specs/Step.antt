-- What a call does to the bench: its description's definitions, applied to what was lent.
use Rattle.std.specs.Prelude.{ℕ, Bool, true, false, List, [], ◌∷◌}
use Rattle.chip.specs.Layout.{block_of, chip_of}
use Rattle.chip.specs.declared.state.Chip.{Chip}
use Rattle.claims.specs.Bench.{Bench}
use Rattle.claims.specs.Call.{Lent, own, other, LentLists, Caller, direct, from_c, Call}
use Rattle.claims.specs.Description.{Reply, Left, Takes, Description}
use Rattle.claims.specs.Descriptions.{described}

module _ {n : ℕ} where
  -- What a call finds in place of one of the bench's lists, l: what was lent for it. (A list that it does not take is not lent.)
  abbrev pub lent : Bool → Lent n → List ℕ → List ℕ
  lent takes own l = l
  lent true (other k wrong) l = k
  lent false (other k wrong) l = l

  -- What the bench has of l afterwards: the list as the call left it, or, where another was lent for it, l as it was.
  abbrev pub back : Bool → Lent n → List ℕ → List ℕ → List ℕ
  back takes own left l = left
  back true (other k wrong) left l = l
  back false (other k wrong) left l = left

-- The bench as the call finds it, and as it is after.
abbrev pub lent_bench : Takes → LentLists → Bench → Bench
lent_bench takes lists b =
    record {
      chip = b.chip;
      vram = lent takes.vram lists.vram b.vram;
      map = lent takes.map lists.map b.map;
      frame = lent takes.frame lists.frame b.frame;
      notes = lent takes.notes lists.notes b.notes;
    }

module _ {S : Type 0} where
  abbrev pub bench_back : Takes → LentLists → Bench → Chip → Left S → Bench
  bench_back takes lists b c left =
      record {
        chip = c;
        vram = back takes.vram lists.vram left.vram b.vram;
        map = back takes.map lists.map left.map b.map;
        frame = back takes.frame lists.frame left.frame b.frame;
        notes = back takes.notes lists.notes left.notes b.notes;
      }

-- The state after a call from C: that of the block as the call left it, or, where another was lent, the state as it was.
abbrev pub state_back : {n : ℕ} → Lent n → List ℕ → Chip → Chip
state_back own block c = chip_of block
state_back (other k wrong) block c = c

-- A step: the next bench and the answer.
pub record Step : Type 0 where
  pub bench : Bench
  pub reply : Reply

-- The step of any call that has a description.
abbrev pub step_of : Description → Caller → LentLists → Bench → Step
step_of d direct lists b =
    let left = d.directly (lent_bench d.takes lists b) in
    record { bench = bench_back d.takes lists b left.state left; reply = left.reply }
step_of d (from_c block) lists b =
    let left = d.through_c (lent true block (block_of b.chip)) (lent_bench d.takes lists b) in
    record { bench = bench_back d.takes lists b (state_back block left.state b.chip) left; reply = left.reply }

unfoldable pub step : Bench → Call → Step
step b call = step_of (described call.op) call.caller call.lists b

-- The bench after a list of calls.
unfoldable pub run : Bench → List Call → Bench
run b [] = b
run b (call ∷ calls) = run (step b call).bench calls

-- That the bytes which a list of calls brings are bytes.
abbrev pub CallsBytes : List Call → Type 0
CallsBytes [] = Unit {0}
CallsBytes (call ∷ calls) = (described call.op).brings.AreBytes × CallsBytes calls
