-- The run of a log is the single calls of its records.
use Prim.Native.Nat.{ℕ, suc, ◌+◌}
use native.Mathlib.Omega.{arith}
use mathlib.Core.Path.{◌≡◌, refl, sym, ap, subst⁻¹, ◌∙◌}
use mathlib.Core.Bool.{Bool, true, false, cond}
use mathlib.Core.List.{List, [], ◌∷◌}
use lib.Dec.{eqb, leb}
use lib.ListN.{length, take}
use borrow.Author.Tests.{eqb-true, eqb-false, not-true, not-false, eq-eqb}
use Rattle.chip.specs.State.{Bytes}
use Rattle.std.specs.Prelude.{Ok}
use Rattle.chip.specs.Refusals.{value_of}
use Rattle.chip.proofs.Laws.Ranges.{and_left, and_right}
use Rattle.chip.proofs.Laws.Refusals.{all-accepted}
use Rattle.scanline.specs.Calls.{line_size, draw_line_tests, draw_line_refusal}
use Rattle.scanline.specs.Colours.{draw_colours_tests, draw_colours_refusal}
use Rattle.port_log.specs.Format.{record_bytes}
use Rattle.port_log.specs.Records.{operation_of, is_read, value_allowed, allowed, all_allowed, records_of}
use Rattle.port_log.specs.Single.{Target, target, answer_by, vram_by, map_by, line_by, answer_to, after}
use Rattle.port_log.specs.Run.{differs, End, run_from, run_tests, run_refusal, end_of}
use Rattle.port_log.specs.declared.records.Operation.{Operation}
use Rattle.port_log.specs.declared.records.Operation.TheVariants.{DataWrite, ControlWrite, DataRead, StatusRead, DrawLine, EndOfDisplay, Reset}
use Rattle.port_log.specs.declared.records.Record.{Record}
use Rattle.port_log.proofs.Laws.Tested.{accepted-sound, accepted-log}
use Rattle.port_log.proofs.Laws.Sound.{Sound, tests_by, passes, sound-after, Values}
use Rattle.claims.specs.Bench.{Bench, Typed}
use Rattle.claims.specs.Call.{Op, direct, Call, whole}
use Rattle.claims.specs.Step.{Step, step, run}
use Rattle.claims.specs.SingleCalls.{single_by, single, later, singles, AsExpected, latest, last_line, Ending, no_difference, difference, IsSingleCalls}
use Rattle.claims.proofs.Laws.RunLog.{bench_on, log-values}
use Rattle.claims.proofs.Laws.Steps.{accepted-step}

-- What the step of an accepted single call is.
record Made (t : Target) (value : ℕ) (next : Target) (frame notes : List ℕ) (s : Step) : Type 0 where
  bench : s.bench ≡ bench_on frame notes next
  refusal : s.reply.refusal ≡ 0
  values : s.reply.values ≡ value ∷ []
  slice : latest s.reply.slices t.line ≡ next.line

module _ (frame notes line : List ℕ) (long : length line ≡ 256) where
  made_by : {t : Target} → Sound t → (codes : List ℕ) → length codes ≡ line_size → (op : Operation) (v : ℕ) → value_allowed op v ≡ true
      → Made t (value_of (answer_by op v t).result) (target (answer_by op v t).chip (vram_by op v t) (map_by op v t) (line_by op v t)) frame notes (step (bench_on frame notes t) (whole (single_by op v line codes) direct))
  unfolding step answer_by vram_by map_by line_by
  made_by {t} s codes wide DataWrite v ok = let a = all-accepted (tests_by DataWrite v t) (passes s DataWrite v ok) in record { bench = refl; refusal = rw a; values = refl; slice = refl }
  made_by {t} s codes wide ControlWrite v ok = let a = all-accepted (tests_by ControlWrite v t) (passes s ControlWrite v ok) in record { bench = refl; refusal = rw a; values = refl; slice = refl }
  made_by {t} s codes wide DataRead v ok = let a = all-accepted (tests_by DataRead v t) (passes s DataRead v ok) in record { bench = refl; refusal = rw a; values = refl; slice = refl }
  made_by {t} s codes wide StatusRead v ok = let a = all-accepted (tests_by StatusRead v t) (passes s StatusRead v ok) in record { bench = refl; refusal = rw a; values = refl; slice = refl }
  made_by {t} s codes wide DrawLine v ok =
      let p = passes s DrawLine v ok in
      let a : draw_colours_refusal t.chip t.vram t.line v ≡ Ok tt = all-accepted (draw_colours_tests t.chip t.vram t.line v) p in
      let b : draw_line_refusal t.chip t.vram line codes v ≡ Ok tt = all-accepted (draw_line_tests t.chip t.vram line codes v) (p.0, (p.1.0, (eq-eqb _ _ long, (eq-eqb _ _ wide, (ok, tt))))) in
      record { bench = rw (a, b); refusal = rw b; values = rw (a, b); slice = rw (a, b) }
  made_by {t} s codes wide EndOfDisplay v ok = let a = all-accepted (tests_by EndOfDisplay v t) (passes s EndOfDisplay v ok) in record { bench = refl; refusal = rw a; values = refl; slice = refl }
  made_by {t} s codes wide Reset v ok = let a = all-accepted (tests_by Reset v t) (passes s Reset v ok) in record { bench = refl; refusal = rw a; values = refl; slice = refl }

  made : {t : Target} → Sound t → (codes : List ℕ) → length codes ≡ line_size → (r : Record) → allowed r ≡ true → Made t (value_of (answer_to r t).result) (after r t) frame notes (step (bench_on frame notes t) (single line codes r))
  unfolding allowed
  made s codes wide r ok = made_by s codes wide (operation_of r.operation) r.value (and_right (leb r.operation 6) (value_allowed (operation_of r.operation) r.value) ok)

  -- What is proved by induction over the records: the run from place i on, against the single calls from that bench on.
  record FromHere (codes : ℕ → List ℕ) (i : ℕ) (rs : List Record) (t : Target) (b : Bench) (held : List ℕ) (e : End) : Type 0 where
    done : ℕ
    place : ℕ
    is-done : e.done ≡ i + done
    is-place : e.place ≡ i + place
    leaves : bench_on frame notes e.target ≡ run b (singles line codes (take done rs))
    slice : e.target.line ≡ last_line line codes b (take done rs) held
    expected : AsExpected line codes b (take place rs)
    ending : Ending line codes b rs done place e.found

  -- A read that did not differ found its record's value.
  as-expected : (r : Record) (x : ℕ) → differs r x ≡ false → is_read (operation_of r.operation) ≡ true → x ≡ r.value
  as-expected r x e read = eqb-true x r.value (not-false (eqb x r.value) (rw read at e))

  ending-later : {codes : ℕ → List ℕ} {r : Record} {rs : List Record} {b : Bench} {done place found : ℕ} → Ending line (later codes) (step b (single line (codes 0) r)).bench rs done place found → Ending line codes b (r ∷ rs) (suc done) (suc place) found
  unfolding run
  ending-later (no_difference d p f) = no_difference (ap suc d) (ap suc p) f
  ending-later (difference r rest at d read ok values other) = difference r rest at (omega arith) read ok values other

  from-here : (codes : ℕ → List ℕ) → ((i : ℕ) → length (codes i) ≡ line_size) → (i : ℕ) (rs : List Record) {t : Target} → Sound t → all_allowed rs ≡ true → Values rs → FromHere codes i rs t (bench_on frame notes t) t.line (run_from i rs t)
  unfolding all_allowed run_from run
  from-here codes wide i [] s ok h =
      record { done = 0; place = 0; is-done = omega arith; is-place = omega arith; leaves = refl; slice = refl; expected = tt; ending = no_difference refl refl refl }
  from-here codes wide i (r ∷ rs) {t} s ok h =
      by (differs r (value_of (answer_to r t).result)) refl
      (from-here (later codes) (λ k. wide (suc k)) (i + 1) rs (sound-after s r h.0) (and_right (allowed r) (all_allowed rs) ok) h.1)
    where
      m : Made t (value_of (answer_to r t).result) (after r t) frame notes (step (bench_on frame notes t) (single line (codes 0) r))
      m = made s (codes 0) (wide 0) r (and_left (allowed r) (all_allowed rs) ok)

      by : (b : Bool) → differs r (value_of (answer_to r t).result) ≡ b → FromHere (later codes) (i + 1) rs (after r t) (bench_on frame notes (after r t)) (after r t).line (run_from (i + 1) rs (after r t))
          → FromHere codes i (r ∷ rs) t (bench_on frame notes t) t.line (cond b (record { target = after r t; done = i + 1; place = i; found = value_of (answer_to r t).result }) (run_from (i + 1) rs (after r t)))
      by true e rest =
          record {
            done = 1;
            place = 0;
            is-done = refl;
            is-place = omega arith;
            leaves = sym m.bench;
            slice = sym m.slice;
            expected = tt;
            ending =
                difference r rs refl refl (and_left (is_read (operation_of r.operation)) _ e) m.refusal m.values
                (λ same. eqb-false _ _ (not-true _ (and_right (is_read (operation_of r.operation)) _ e)) same);
          }
      by false e rest =
          record {
            done = suc rest.done;
            place = suc rest.place;
            is-done = let d = rest.is-done in omega arith;
            is-place = let p = rest.is-place in omega arith;
            leaves = rest.leaves ∙ ap (λ (k : Bench). run k (singles line (later codes) (take rest.done rs))) (sym m.bench);
            slice = rest.slice ∙ (λ j. last_line line (later codes) (sym m.bench j) (take rest.done rs) (sym m.slice j));
            expected = (m.refusal, λ read. m.values ∙ ap (λ (x : ℕ). x ∷ []) (as-expected r (value_of (answer_to r t).result) e read), subst⁻¹ (λ (k : Bench). AsExpected line (later codes) k (take rest.place rs)) m.bench rest.expected);
            ending = ending-later (subst⁻¹ (λ (k : Bench). Ending line (later codes) k rs rest.done rest.place (run_from (i + 1) rs (after r t)).found) m.bench rest.ending);
          }

-- Take any bench whose state fits its types and whose VRAM holds bytes, and the run of a log of bytes on it that is accepted,
-- called directly or from C. It leaves the bench that the single calls of its records leave, as far as they were done. None of
-- these calls is refused. Each read among them but the last answers its record's value, and where the run ended at a read that
-- differs, that one answers the byte found. The slice for lines holds the last line drawn, or what it held if none was. Where no
-- read differs, every record is done.
--
-- The run has no slice for origins, and the single calls need one each: they are lent any slices of 256 bytes, codes i that of the
-- record at place i, and nothing is said of what they leave there.
--
-- It rests on `step` and `run` (specs/Step.antt) for the single calls, and on the definition of the run in the crate log.
pub run-is-single-calls :
    (b : Bench) → Typed b → (call : Call) (line log outcome : List ℕ) → call.op ≡ Op.run_log line log outcome → Bytes log
    → (step b call).reply.refusal ≡ 0
    → (codes : ℕ → List ℕ) → ((i : ℕ) → length (codes i) ≡ line_size)
    → IsSingleCalls b line codes log (step b call)
run-is-single-calls b typed call line log outcome is bytes zero codes wide =
    let out = accepted-step b typed.chip call is (typed.vram, bytes) zero in
    let p = out.0 in
    let ok : run_refusal b.chip b.vram b.map line log ≡ Ok tt = all-accepted (run_tests b.chip b.vram b.map line log) p in
    let sound = accepted-sound b.chip b.vram b.map line log ok typed.chip typed.vram in
    let rs : List Record = records_of (record_bytes log) in
    let e : End = end_of b.chip b.vram b.map line log in
    let h = from-here b.frame b.notes line sound.line codes wide 0 rs sound (accepted-log b.chip b.vram b.map line log ok).records (log-values log bytes) in
    let done : e.done ≡ h.done = omega (arith, h.is-done) in
    let place : e.place ≡ h.place = omega (arith, h.is-place) in
    subst⁻¹ (IsSingleCalls b line codes log) out.1
    (record {
      done = h.done;
      place = h.place;
      found = e.found;
      numbers = rw ok (λ i. e.found ∷ done i ∷ place i ∷ []);
      leaves = rw ok h.leaves;
      slice = rw ok (ap (λ (l : List ℕ). l ∷ []) h.slice);
      expected = h.expected;
      ending = h.ending;
    })
