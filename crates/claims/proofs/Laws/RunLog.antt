-- The laws of the run of a log. It keeps the invariant because the single calls of its records do.
use Prim.Native.Nat.{ℕ, ◌+◌, ◌*◌, ◌/◌, ◌%◌, ◌<◌}
use native.Mathlib.Omega.{arith}
use native.Mathlib.Nat.{mod-add-div}
use mathlib.Core.Path.{◌≡◌, refl, ap, subst, ◌∙◌}
use mathlib.Core.Bool.{Bool, true, false, cond}
use mathlib.Core.List.{List, [], ◌∷◌}
use lib.Dec.{eqb, leb, lit<}
use lib.ListN.{length}
use borrow.Author.Tests.{eqb-true, ne_eqb}
use Rattle.chip.specs.State.{Bytes, Fits}
use Rattle.chip.specs.Layout.{block_of, chip_of}
use Rattle.std.specs.Prelude.{Ok, Err}
use Rattle.chip.specs.Refusals.{Outcome, slice_test, refusal_number, refusal_of, result_of, if_accepted, value_of}
use Rattle.chip.specs.declared.state.Chip.{Chip}
use Rattle.chip.specs.declared.refusal.Refusal.{Refusal}
use Rattle.chip.proofs.Laws.Layout.{chip-block}
use Rattle.chip.proofs.Laws.Lists.{bytes_take}
use Rattle.chip.proofs.Laws.Ranges.{and_left, and_right}
use Rattle.chip.proofs.Laws.Ready.{either}
use Rattle.chip.proofs.Laws.Refusals.{AllPass, all-accepted}
use Rattle.chip.specs.TwoBytes.{low_first_at}
use Rattle.port_log.specs.Format.{log_trailer_at, record_bytes}
use Rattle.port_log.specs.Records.{operation_of, value_allowed, allowed, all_allowed, records_of}
use Rattle.port_log.specs.Single.{Target, target, answer_by, vram_by, map_by, line_by, answer_to, after}
use Rattle.port_log.specs.Run.{differs, End, run_from, ran_of, refused_run, run_own_tests, run_refusal, run_log, run_vram, run_map, run_line, answer_of, end_of}
use Rattle.port_log.specs.declared.records.Operation.{Operation}
use Rattle.port_log.specs.declared.records.Operation.TheVariants.{DataWrite, ControlWrite, DataRead, StatusRead, DrawLine, EndOfDisplay, Reset}
use Rattle.port_log.specs.declared.records.Record.{Record}
use Rattle.port_log.specs.declared.running.Ran.{Ran}
use Rattle.port_log.proofs.Laws.Tested.{accepted-sound, accepted-log}
use Rattle.port_log.proofs.Laws.Sound.{Sound, passes, sound-after, Values, values-bytes, run_sound, found-byte}
use Rattle.birdcleft.specs.Calls.{result_through, block_through, list_through}
use Rattle.birdcleft.proofs.Order.{slice_tested}
use Rattle.birdcleft.specs.Logs.{outcome_size, run_entry, reported}
use Rattle.scanline.specs.Colours.{zero_codes}
use Rattle.claims.specs.Bench.{Bench}
use Rattle.claims.specs.Call.{Op}
use Rattle.claims.specs.Description.{Left, tests, of_ran, of_outcome, runs}
use Rattle.claims.specs.Descriptions.{described}
use Rattle.claims.specs.SingleCalls.{single_by}
use Rattle.claims.proofs.Laws.Invariant.{Invariant, Effect, bench, keeps, makes-calls}
use Rattle.claims.proofs.Laws.Lawful.{parts, refusal_above, bench_of, decoded_left, as_lent, entry_tests, Lawful}
use Rattle.claims.proofs.Laws.RecordCalls.{control-write-lawful, data-write-lawful, data-read-lawful, status-read-lawful, end-of-display-lawful, reset-lawful, draw-line-lawful}

single-lawful : (op : Operation) (v : ℕ) (line codes : List ℕ) → Lawful (described (single_by op v line codes))
single-lawful DataWrite v line codes = data-write-lawful v
single-lawful ControlWrite v line codes = control-write-lawful v
single-lawful DataRead v line codes = data-read-lawful
single-lawful StatusRead v line codes = status-read-lawful
single-lawful DrawLine v line codes = draw-line-lawful line codes v
single-lawful EndOfDisplay v line codes = end-of-display-lawful
single-lawful Reset v line codes = reset-lawful

single-bytes : (op : Operation) (v : ℕ) (line codes : List ℕ) → v < 256 → (described (single_by op v line codes)).brings.AreBytes
single-bytes DataWrite v line codes h = h
single-bytes ControlWrite v line codes h = h
single-bytes DataRead v line codes h = tt
single-bytes StatusRead v line codes h = tt
single-bytes DrawLine v line codes h = tt
single-bytes EndOfDisplay v line codes h = tt
single-bytes Reset v line codes h = tt

module _ (frame notes : List ℕ) where
  -- The bench that a run's target stands on.
  abbrev pub bench_on : Target → Bench
  bench_on t = bench t.chip t.vram t.map frame notes

  -- What a single call leaves on it, by the definition of the step and by that of the run, which draws lines by colours alone.
  same-bench : (op : Operation) (v : ℕ) (t : Target) → bench_of ((described (single_by op v t.line zero_codes)).directly (bench_on t)) ≡ bench_on (target (answer_by op v t).chip (vram_by op v t) (map_by op v t) (line_by op v t))
  unfolding answer_by vram_by map_by line_by
  same-bench DataWrite v t = refl
  same-bench ControlWrite v t = refl
  same-bench DataRead v t = refl
  same-bench StatusRead v t = refl
  same-bench DrawLine v t = refl
  same-bench EndOfDisplay v t = refl
  same-bench Reset v t = refl

  single-passes : {t : Target} → Sound t → (op : Operation) (v : ℕ) → value_allowed op v ≡ true → AllPass (tests (described (single_by op v t.line zero_codes)) (bench_on t))
  single-passes s DataWrite v ok = passes s DataWrite v ok
  single-passes s ControlWrite v ok = passes s ControlWrite v ok
  single-passes s DataRead v ok = passes s DataRead v ok
  single-passes s StatusRead v ok = passes s StatusRead v ok
  single-passes s DrawLine v ok = passes s DrawLine v ok
  single-passes s EndOfDisplay v ok = passes s EndOfDisplay v ok
  single-passes s Reset v ok = passes s Reset v ok

  -- The bench of a target that has the invariant, and a slice for lines of its length, is sound.
  sound-on : {t : Target} → length t.line ≡ 256 → Invariant (bench_on t) → Sound t
  sound-on long inv = record { ready = inv.ready; bytes = inv.bytes; vram = inv.lengths.vram; map = inv.lengths.map; line = long }

  keeps-single : (t : Target) (r : Record) → allowed r ≡ true → r.value < 256 → length t.line ≡ 256 → Invariant (bench_on t) → Invariant (bench_on (after r t))
  unfolding allowed
  keeps-single t r ok small long inv =
      let op : Operation = operation_of r.operation in
      let v : ℕ = r.value in
      let d = described (single_by op v t.line zero_codes) in
      let p : AllPass (tests d (bench_on t)) = single-passes (sound-on long inv) op v (and_right (leb r.operation 6) (value_allowed op v) ok) in
      subst Invariant (same-bench op v t)
      (keeps inv ((single-lawful op v t.line zero_codes).effect (bench_on t) (single-bytes op v t.line zero_codes small) inv.lengths (record { chip = inv.ready.fits; vram = inv.bytes }) p (all-accepted (tests d (bench_on t)) p)))

  keeps-run : (i : ℕ) (rs : List Record) (t : Target) → all_allowed rs ≡ true → Values rs → length t.line ≡ 256 → Invariant (bench_on t) → Invariant (bench_on (run_from i rs t).target)
  unfolding all_allowed run_from
  keeps-run i [] t ok h long inv = inv
  keeps-run i (r ∷ rs) t ok h long inv =
      let next = keeps-single t r (and_left (allowed r) (all_allowed rs) ok) h.0 long inv in
      let lined : length (after r t).line ≡ 256 = (sound-after (sound-on long inv) r h.0).line in
      either (λ (e : End). Invariant (bench_on e.target)) (differs r (value_of (answer_to r t).result)) _ _ next
      (keeps-run (i + 1) rs (after r t) (and_right (allowed r) (all_allowed rs) ok) h.1 lined next)

-- The records of a log of bytes.
pub log-values : (log : List ℕ) → Bytes log → Values (records_of (record_bytes log))
unfolding record_bytes
log-values log bytes = values-bytes (record_bytes log) (bytes_take (log_trailer_at log) log bytes)

module _ (line log outcome : List ℕ) where
  abbrev op : Op
  op = Op.run_log line log outcome

  run-effect : (b : Bench) → Bytes log → AllPass (tests (described op) b) → refusal_of (tests (described op) b) ≡ Ok tt → Effect false b (bench_of ((described op).directly b))
  run-effect b bytes p ok =
      rw ok
      (makes-calls refl
      (λ inv.
      keeps-run b.frame b.notes 0 (records_of (record_bytes log)) (target b.chip b.vram b.map line) (accepted-log b.chip b.vram b.map line log ok).records (log-values log bytes) (eqb-true _ _ p.1.1.1.0) inv))

  -- From C, refused at entry: the result is 256 times the refusal number, and no number is read out of the outcome.
  run-not-entered : (block : List ℕ) (b : Bench) → {r : Refusal} → refusal_of (entry_tests (described op) block b) ≡ Err r → (described op).through_c block b ≡ as_lent (described op) (refusal_number r) block b
  unfolding run_entry result_through block_through list_through
  run-not-entered block b {r} e =
      let n : ℕ = refusal_number r in
      let high : n * 256 / 256 ≡ n = omega arith in
      let low : n * 256 % 256 ≡ 0 = omega arith in
      rw e (rw (high, low, ne_eqb n 0 (refusal_above r)))

  -- What a run from C leaves past the entry, and directly, by what the direct run hands back and leaves.
  abbrev left_from_c : Bench → Ran → List ℕ → List ℕ → List ℕ → Left (List ℕ)
  left_from_c b ran vram map drawn =
      runs b
      (of_outcome (record { result = result_of (answer_of ran); block = if_accepted (answer_of ran).result (block_of ran.chip) (block_of b.chip) }) (reported ran outcome))
      vram map (drawn ∷ [])

  abbrev left_directly : Bench → Ran → List ℕ → List ℕ → List ℕ → Left Chip
  left_directly b ran vram map drawn = runs b (of_ran ran) vram map (drawn ∷ [])

  abbrev left_by : Bench → Chip → Left (List ℕ)
  left_by b c = left_from_c b (run_log c b.vram b.map line log) (run_vram c b.vram b.map line log) (run_map c b.vram b.map line log) (run_line c b.vram b.map line log)

  entered-left : (b : Bench) → let block = block_of b.chip in refusal_of (entry_tests (described op) block b) ≡ Ok tt → (described op).through_c block b ≡ left_by b (chip_of block)
  unfolding run_entry result_through block_through list_through
  entered-left b e = rw e

  accepted-back : (b : Bench) (e : End) (vram map drawn : List ℕ) → e.found < 256 → length e.target.chip.registers ≡ 8 → decoded_left (left_from_c b (ran_of e) vram map drawn) ≡ left_directly b (ran_of e) vram map drawn
  accepted-back b e vram map drawn small eight =
      let both = parts 0 e.found small in
      λ i.
      record {
        state = chip-block e.target.chip eight i;
        vram = vram;
        map = map;
        frame = b.frame;
        notes = b.notes;
        reply = record {
          refusal = both.0 i;
          values = both.1 i ∷ cond (eqb (both.0 i) 0) (mod-add-div e.done 256 i ∷ mod-add-div e.place 256 i ∷ []) (0 ∷ 0 ∷ []);
          slices = drawn ∷ [];
        };
      }

  refused-back : (b : Bench) (n : Refusal) (vram map drawn : List ℕ) → length b.chip.registers ≡ 8 → decoded_left (left_from_c b (refused_run b.chip n) vram map drawn) ≡ left_directly b (refused_run b.chip n) vram map drawn
  refused-back b n vram map drawn eight =
      let both = parts (refusal_number n) 0 (lit< tt) in
      let numbers : List ℕ = low_first_at (reported (refused_run b.chip n) outcome) 0 ∷ low_first_at (reported (refused_run b.chip n) outcome) 2 ∷ [] in
      let none : cond (eqb ((refusal_number n * 256 + 0) / 256) 0) numbers (0 ∷ 0 ∷ []) ≡ 0 ∷ 0 ∷ [] =
      ap (λ (k : ℕ). cond (eqb k 0) numbers (0 ∷ 0 ∷ [])) both.0
      ∙ ap (λ (a : Bool). cond a numbers (0 ∷ 0 ∷ [])) (ne_eqb (refusal_number n) 0 (refusal_above n)) in
      λ i.
      record {
        state = chip-block b.chip eight i;
        vram = vram;
        map = map;
        frame = b.frame;
        notes = b.notes;
        reply = record { refusal = both.0 i; values = both.1 i ∷ none i; slices = drawn ∷ [] };
      }

  read_back : (b : Bench) → Fits b.chip → Bytes b.vram → Bytes log → decoded_left (left_by b b.chip) ≡ (described op).directly b
  read_back b fits bytes log-bytes = by n refl
    where
      n : Outcome
      n = run_refusal b.chip b.vram b.map line log

      e : End
      e = end_of b.chip b.vram b.map line log

      by : (r : Outcome) → n ≡ r → decoded_left (left_by b b.chip) ≡ (described op).directly b
      by (Ok u) ok =
          let sound = accepted-sound b.chip b.vram b.map line log ok fits bytes in
          let values = log-values log log-bytes in
          let small = found-byte 0 (records_of (record_bytes log)) sound values in
          let eight = (run_sound 0 (records_of (record_bytes log)) sound values).ready.fits.eight in
          rw ok (accepted-back b e e.target.vram e.target.map e.target.line small eight)
      by (Err r) refuses = rw refuses (refused-back b r b.vram b.map line fits.eight)

  run-entered : (b : Bench) → Fits b.chip → Bytes b.vram × Bytes log → let block = block_of b.chip in refusal_of (entry_tests (described op) block b) ≡ Ok tt → decoded_left ((described op).through_c block b) ≡ (described op).directly b
  run-entered b fits bytes e =
      ap decoded_left (entered-left b e)
      ∙ (λ i. decoded_left (left_by b (chip-block b.chip fits.eight i)))
      ∙ read_back b fits bytes.0 bytes.1

  -- The outcome's length gives 2, as that of the slice for lines does; VRAM's, the one before it in the order, is not the call's own.
  outcome-first : {r : Refusal} → refusal_of (slice_test outcome_size outcome ∷ []) ≡ Err r → refusal_of (slice_test outcome_size outcome ∷ run_own_tests line log) ≡ Err r
  outcome-first {r} = by (eqb (length outcome) outcome_size)
    where
      by : (o : Bool) → refusal_of (slice_tested o ∷ []) ≡ Err r → refusal_of (slice_tested o ∷ run_own_tests line log) ≡ Err r
      by true e = cc
      by false e = e

  pub run-lawful : Lawful (described op)
  run-lawful =
      record {
        accepted = λ b ok. rw ok;
        refused = λ b e. rw e;
        only-from-c = record { first = λ c. outcome-first; numbers_fit = λ vram bytes h. (bytes, h) };
        not_entered = run-not-entered;
        entered = run-entered;
        effect = λ b h lengths typed p ok. run-effect b h p ok;
      }
