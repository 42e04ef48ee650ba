-- The invariant of demand 3, the effects that an accepted call can have, and that each keeps or establishes it.
use Prim.Native.Nat.{ℕ, ◌/◌, ◌≤◌, ◌<◌}
use native.Mathlib.Omega.{arith}
use mathlib.Core.Path.{◌≡◌, refl, subst⁻¹, ◌∙◌}
use mathlib.Core.Bool.{Bool, true, false}
use mathlib.Core.List.{List}
use lib.ListN.{length, length-set, length-replicate}
use Rattle.chip.specs.State.{Bytes, vram_size}
use Rattle.chip.specs.Map.{map_size, set_dirty}
use Rattle.chip.specs.Ports.{data_written, stored}
use Rattle.chip.specs.declared.state.Chip.{Chip}
use Rattle.chip.proofs.Laws.Lists.{length-tabulate}
use Rattle.chip.proofs.Laws.Refusals.{differ}
use Rattle.chip.proofs.Laws.State.{address-in}
use Rattle.chip.proofs.Laws.Registers.{bytes-set}
use Rattle.chip.proofs.Laws.Ready.{Ready, ready-written}
use Rattle.fetches.specs.Fetch.{value}
use Rattle.scanline.specs.Line.{line_of, colour_at}
use Rattle.scanline.specs.Calls.{note_at, colours}
use Rattle.frame.specs.Lines.{line_count}
use Rattle.frame.specs.Draw.{frame_of, notes_of, clear_map, drawn_state}
use Rattle.frame.specs.Due.{new_frame, new_notes}
use Rattle.frame.proofs.Laws.Lines.{length-end}
use Rattle.frame.proofs.Laws.Clean.{Clean, clean-while-redraw, clean-drawn, clean-written, refreshed-frame, refreshed-notes}
use Rattle.claims.specs.Bench.{Bench, Lengths, Typed}
use Rattle.claims.proofs.Laws.States.{ready-drawn}
use Rattle.claims.proofs.Laws.ControlWrites.{Redraws, no_line, every-line}

abbrev pub bench : Chip → List ℕ → List ℕ → List ℕ → List ℕ → Bench
bench c vram map frame notes = record { chip = c; vram = vram; map = map; frame = frame; notes = notes }

-- The bench with another state, or with another state and VRAM.
abbrev pub with_state : Chip → Bench → Bench
with_state c b = bench c b.vram b.map b.frame b.notes

abbrev pub with_memory : Chip → List ℕ → Bench → Bench
with_memory c vram b = bench c vram b.map b.frame b.notes

-- The bench with byte x written at the address, and its dirty bit set.
abbrev pub written : ℕ → Bench → Bench
written x b = bench (data_written x b.chip) (stored x b.chip b.vram) (set_dirty b.map b.chip.address) b.frame b.notes

-- What a full draw leaves, whatever frame, notes and map were.
abbrev pub drawn : Chip → List ℕ → Bench
drawn c vram = bench (drawn_state c (notes_of c.registers vram)) vram clear_map (frame_of c.registers vram) (notes_of c.registers vram)

-- What a refresh leaves: each line drawn if due, else as lent.
abbrev pub refreshed : Bench → Bench
refreshed b =
    let c = b.chip in
    let notes = new_notes c.redraw c.registers b.vram b.map b.notes in
    bench (drawn_state c notes) b.vram clear_map (new_frame c.redraw c.registers b.vram b.map b.frame) notes

-- The lengths are right, the state is well-formed and fits, VRAM holds bytes; and every line that is not due stands in
-- frame and notes as a full draw would leave it.
pub record Invariant (b : Bench) : Type 0 where
  pub lengths : Lengths b
  pub ready : Ready b.chip
  pub bytes : Bytes b.vram
  pub clean : Clean b.chip.redraw b.chip.registers b.vram b.map b.frame b.notes

-- What an accepted call can do to the bench. The first two effects of the six need no invariant before them.
pub data Effect (establishes : Bool) (b after : Bench) : Type 0 where
  -- The redraw mark is set, whatever becomes of state and VRAM.
  sets-mark : (d : Chip) (vram : List ℕ) → after ≡ with_memory d vram b → Ready d → d.redraw ≡ true → length vram ≡ vram_size → Bytes vram → Effect establishes b after
  draws-all : after ≡ drawn b.chip b.vram → Ready b.chip → Effect establishes b after
  -- Nothing that a line reads changes.
  changes-no-line : (d : Chip) → establishes ≡ false → after ≡ with_state d b → Ready d → d.registers ≡ b.chip.registers → d.redraw ≡ b.chip.redraw → Effect establishes b after
  writes_byte : (x : ℕ) → establishes ≡ false → after ≡ written x b → x < 256 → Effect establishes b after
  refreshes : establishes ≡ false → after ≡ refreshed b → Effect establishes b after
  -- It makes other calls, which keep the invariant.
  makes-calls : establishes ≡ false → (Invariant b → Invariant after) → Effect establishes b after

-- A change of the state alone.
pub state-effect : {b after : Bench} (d : Chip) → Lengths b → Typed b → after ≡ with_state d b → Ready d → Redraws b.chip d → Effect false b after
state-effect d lengths typed is ready (no_line r m) = changes-no-line d refl is ready r m
state-effect {b} d lengths typed is ready (every-line m) = sets-mark d b.vram is ready m lengths.vram typed.vram

clean-by-redraw : {m : Bool} → m ≡ true → (r vram map frame notes : List ℕ) → Clean m r vram map frame notes
clean-by-redraw e r vram map frame notes = rw e (clean-while-redraw r vram map frame notes)

same-clean : {m k : Bool} {r s vram map frame notes : List ℕ} → k ≡ m → s ≡ r → Clean m r vram map frame notes → Clean k s vram map frame notes
same-clean e f clean = rw (e, f) clean

redraw-set : {b : Bench} → Lengths b → (d : Chip) (vram : List ℕ) → Ready d → d.redraw ≡ true → length vram ≡ vram_size → Bytes vram → Invariant (with_memory d vram b)
redraw-set {b} lengths d vram ready m long bytes =
    record {
      lengths = record { vram = long; map = lengths.map; frame = lengths.frame; notes = lengths.notes };
      ready = ready;
      bytes = bytes;
      clean = clean-by-redraw m d.registers vram b.map b.frame b.notes;
    }

length-frame : (r vram : List ℕ) → length (frame_of r vram) ≡ 49152
length-frame r vram = length-end (colours r vram) 192 (λ k below. length-tabulate 256 (colour_at r (value (line_of r k) vram)))

all-drawn : (c : Chip) (vram : List ℕ) → Ready c → length vram ≡ 16384 → Bytes vram → Invariant (drawn c vram)
all-drawn c vram ready long bytes =
    record {
      lengths =
          record {
            vram = long;
            map = length-replicate {A = ℕ} map_size 0;
            frame = length-frame c.registers vram;
            notes = length-tabulate line_count (note_at c.registers vram);
          };
      ready = ready-drawn ready (notes_of c.registers vram);
      bytes = bytes;
      clean = clean-drawn false c.registers vram clear_map;
    }

module _ {b : Bench} (inv : Invariant b) where
  no-line-changed : (d : Chip) → Ready d → d.registers ≡ b.chip.registers → d.redraw ≡ b.chip.redraw → Invariant (with_state d b)
  no-line-changed d ready r m =
      record {
        lengths = record { vram = inv.lengths.vram; map = inv.lengths.map; frame = inv.lengths.frame; notes = inv.lengths.notes };
        ready = ready;
        bytes = inv.bytes;
        clean = same-clean m r inv.clean;
      }

  byte-written : (x : ℕ) → x < 256 → Invariant (written x b)
  byte-written x h =
      let a : ℕ = b.chip.address in
      let within : a ≤ 16383 = address-in b.chip inv.ready.well-formed in
      let long = inv.lengths.map in
      record {
        lengths =
            record {
              vram = length-set b.vram a x ∙ inv.lengths.vram;
              map = length-set b.map (a / 8) _ ∙ long;
              frame = inv.lengths.frame;
              notes = inv.lengths.notes;
            };
        ready = ready-written inv.ready x h;
        bytes = bytes-set b.vram a x inv.bytes h;
        clean = clean-written inv.clean a x (omega arith);
      }

  -- A refresh leaves what a full draw leaves.
  pub refreshed-drawn : refreshed b ≡ drawn b.chip b.vram
  refreshed-drawn =
      let frame = refreshed-frame inv.clean in
      let notes = refreshed-notes inv.clean in
      λ i. bench (drawn_state b.chip (notes i)) b.vram clear_map (frame i) (notes i)

  pub keeps : {e : Bool} {after : Bench} → Effect e b after → Invariant after
  keeps (sets-mark d vram is ready m long bytes) = subst⁻¹ Invariant is (redraw-set inv.lengths d vram ready m long bytes)
  keeps (draws-all is ready) = subst⁻¹ Invariant is (all-drawn b.chip b.vram ready inv.lengths.vram inv.bytes)
  keeps (changes-no-line d e is ready r m) = subst⁻¹ Invariant is (no-line-changed d ready r m)
  keeps (writes_byte x e is h) = subst⁻¹ Invariant is (byte-written x h)
  keeps (makes-calls e kept) = kept inv
  keeps (refreshes e is) = subst⁻¹ Invariant (is ∙ refreshed-drawn) (all-drawn b.chip b.vram inv.ready inv.lengths.vram inv.bytes)

pub establish : {b : Bench} → Lengths b → Typed b → {after : Bench} → Effect true b after → Invariant after
establish lengths typed (sets-mark d vram is ready m long bytes) = subst⁻¹ Invariant is (redraw-set lengths d vram ready m long bytes)
establish {b} lengths typed (draws-all is ready) = subst⁻¹ Invariant is (all-drawn b.chip b.vram ready lengths.vram typed.vram)
establish lengths typed (changes-no-line d e is ready r m) = absurd (differ e)
establish lengths typed (writes_byte x e is h) = absurd (differ e)
establish lengths typed (refreshes e is) = absurd (differ e)
establish lengths typed (makes-calls e kept) = absurd (differ e)
