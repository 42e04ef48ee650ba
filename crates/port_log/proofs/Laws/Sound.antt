-- Runs from a target that is sound, which a run's tests and the types make it: the tests of an allowed record's call pass, and
-- each call leaves a sound target and reads a byte.
use Prim.Native.Nat.{ℕ, suc, ◌+◌, ◌/◌, ◌%◌, ◌<◌}
use mathlib.Core.Path.{◌≡◌, ◌∙◌}
use mathlib.Core.Bool.{Bool, true, cond}
use mathlib.Core.List.{List, [], ◌∷◌}
use lib.Dec.{lit<}
use lib.ListN.{length, get_or, length-set, length-replicate}
use borrow.Author.Tests.{eq-eqb}
use Rattle.chip.specs.Bits.{set_bit}
use Rattle.chip.specs.Calls.{data_write_tests, control_write_tests, data_read_tests, status_read_tests, end_of_display_tests, reset_tests}
use Rattle.chip.specs.State.{Bytes}
use Rattle.chip.specs.Refusals.{Test, refusal_of, is_accepted, value_of}
use Rattle.chip.specs.declared.state.Chip.{Chip}
use Rattle.chip.proofs.Laws.Lists.{length-tabulate}
use Rattle.chip.proofs.Laws.Ready.{Ready, ready-control, ready-written, ready_read, ready-status-read, ready-ended, ready-reset, either}
use Rattle.chip.proofs.Laws.Refusals.{AllPass, given-byte}
use Rattle.chip.proofs.Laws.Registers.{bytes-set}
use Rattle.scanline.specs.Calls.{note_at}
use Rattle.scanline.specs.Colours.{draw_colours_tests}
use Rattle.scanline.proofs.Laws.Ready.{ready-line}
use Rattle.port_log.specs.Records.{operation_of, value_allowed, records_of}
use Rattle.port_log.specs.Single.{Target, target, answer_by, vram_by, map_by, line_by, answer_to, after}
use Rattle.port_log.specs.Run.{differs, End, run_from}
use Rattle.port_log.specs.declared.records.Operation.{Operation}
use Rattle.port_log.specs.declared.records.Operation.TheVariants.{DataWrite, ControlWrite, DataRead, StatusRead, DrawLine, EndOfDisplay, Reset}
use Rattle.port_log.specs.declared.records.Record.{Record}

pub record Sound (t : Target) : Type 0 where
  pub ready : Ready t.chip
  pub bytes : Bytes t.vram
  pub vram : length t.vram ≡ 16384
  pub map : length t.map ≡ 2048
  pub line : length t.line ≡ 256

-- The tests of the single call.
abbrev pub tests_by : Operation → ℕ → Target → List Test
tests_by DataWrite v t = data_write_tests t.chip t.vram t.map
tests_by ControlWrite v t = control_write_tests t.chip t.vram
tests_by DataRead v t = data_read_tests t.chip t.vram
tests_by StatusRead v t = status_read_tests t.chip
tests_by DrawLine v t = draw_colours_tests t.chip t.vram t.line v
tests_by EndOfDisplay v t = end_of_display_tests t.chip
tests_by Reset v t = reset_tests t.chip

-- They pass where the value is allowed.
pub passes : {t : Target} → Sound t → (op : Operation) (v : ℕ) → value_allowed op v ≡ true → AllPass (tests_by op v t)
passes s DataWrite v ok = (eq-eqb _ _ s.vram, (eq-eqb _ _ s.map, (s.ready.well-formed, tt)))
passes s ControlWrite v ok = (eq-eqb _ _ s.vram, (s.ready.well-formed, tt))
passes s DataRead v ok = (eq-eqb _ _ s.vram, (s.ready.well-formed, tt))
passes s StatusRead v ok = (s.ready.well-formed, tt)
passes s DrawLine v ok = (eq-eqb _ _ s.vram, (s.ready.well-formed, (eq-eqb _ _ s.line, (eq-eqb _ _ (length-replicate {A = ℕ} 256 0), (ok, tt)))))
passes s EndOfDisplay v ok = (s.ready.well-formed, tt)
passes s Reset v ok = (s.ready.well-formed, tt)

-- Accepted or refused, the call leaves a sound target and reads a byte.
module _ {t : Target} (s : Sound t) where
  -- whether it is accepted
  abbrev accepts : Operation → ℕ → Bool
  accepts op v = is_accepted (refusal_of (tests_by op v t))

  with-state : (b : Bool) (c : Chip) → Ready c → Sound (target (cond b c t.chip) t.vram t.map t.line)
  with-state b c ready =
      record {
        ready = either Ready b c t.chip ready s.ready;
        bytes = s.bytes;
        vram = s.vram;
        map = s.map;
        line = s.line;
      }

  after-by : (op : Operation) (v : ℕ) → v < 256 → Sound (target (answer_by op v t).chip (vram_by op v t) (map_by op v t) (line_by op v t))
  unfolding answer_by vram_by map_by line_by
  after-by DataWrite v h =
      let b = accepts DataWrite v in
      let at = t.chip.address in
      record {
        ready = either Ready b _ t.chip (ready-written s.ready v h) s.ready;
        bytes = either Bytes b _ t.vram (bytes-set t.vram at v s.bytes h) s.bytes;
        vram = either (λ (l : List ℕ). length l ≡ 16384) b _ t.vram (length-set t.vram at v ∙ s.vram) s.vram;
        map = either (λ (l : List ℕ). length l ≡ 2048) b _ t.map (length-set t.map (at / 8) (set_bit (at % 8) (get_or t.map (at / 8) 0)) ∙ s.map) s.map;
        line = s.line;
      }
  after-by ControlWrite v h = with-state (accepts ControlWrite v) _ (ready-control s.ready t.vram s.bytes v h)
  after-by DataRead v h = with-state (accepts DataRead v) _ (ready_read s.ready t.vram s.bytes)
  after-by StatusRead v h = with-state (accepts StatusRead v) _ (ready-status-read s.ready)
  after-by DrawLine v h =
      let b = accepts DrawLine v in
      record {
        ready = either Ready b _ t.chip (ready-line s.ready (note_at t.chip.registers t.vram v)) s.ready;
        bytes = s.bytes;
        vram = s.vram;
        map = s.map;
        line = either (λ (l : List ℕ). length l ≡ 256) b _ t.line (length-tabulate 256 _) s.line;
      }
  after-by EndOfDisplay v h = with-state (accepts EndOfDisplay v) _ (ready-ended s.ready)
  after-by Reset v h = with-state (accepts Reset v) _ (ready-reset s.ready)

  pub sound-after : (r : Record) → r.value < 256 → Sound (after r t)
  sound-after r h = after-by (operation_of r.operation) r.value h

  value-by : (op : Operation) (v : ℕ) → value_of (answer_by op v t).result < 256
  unfolding answer_by
  value-by DataWrite v = given-byte (refusal_of (tests_by DataWrite v t)) 0 (λ _. lit< tt)
  value-by ControlWrite v = given-byte (refusal_of (tests_by ControlWrite v t)) 0 (λ _. lit< tt)
  value-by DataRead v = given-byte (refusal_of (tests_by DataRead v t)) t.chip.buffer (λ _. s.ready.fits.buffer)
  value-by StatusRead v = given-byte (refusal_of (tests_by StatusRead v t)) t.chip.status (λ _. s.ready.fits.status)
  value-by DrawLine v = given-byte (refusal_of (tests_by DrawLine v t)) 0 (λ _. lit< tt)
  value-by EndOfDisplay v = given-byte (refusal_of (tests_by EndOfDisplay v t)) 0 (λ _. lit< tt)
  value-by Reset v = given-byte (refusal_of (tests_by Reset v t)) 0 (λ _. lit< tt)

  pub value-byte : (r : Record) → value_of (answer_to r t).result < 256
  value-byte r = value-by (operation_of r.operation) r.value

-- That every record's value is a byte, as it is in records of bytes.
abbrev pub Values : List Record → Type 0
Values [] = Unit {0}
Values (r ∷ rs) = (r.value < 256) × Values rs

pub values-bytes : (l : List ℕ) → Bytes l → Values (records_of l)
unfolding records_of
values-bytes [] bytes = tt
values-bytes (x ∷ []) bytes = tt
values-bytes (x ∷ v ∷ l) bytes = (bytes 1, values-bytes l (λ i. bytes (suc (suc i))))

-- A run, from place i on.
pub run_sound : (i : ℕ) (rs : List Record) {t : Target} → Sound t → Values rs → Sound (run_from i rs t).target
unfolding run_from
run_sound i [] s h = s
run_sound i (r ∷ rs) {t} s h =
    let next = sound-after s r h.0 in
    either (λ (e : End). Sound e.target) (differs r (value_of (answer_to r t).result)) _ _ next (run_sound (i + 1) rs next h.1)

pub found-byte : (i : ℕ) (rs : List Record) {t : Target} → Sound t → Values rs → (run_from i rs t).found < 256
unfolding run_from
found-byte i [] s h = lit< tt
found-byte i (r ∷ rs) {t} s h =
    either (λ (e : End). e.found < 256) (differs r (value_of (answer_to r t).result)) _ _ (value-byte s r) (found-byte (i + 1) rs (sound-after s r h.0) h.1)
