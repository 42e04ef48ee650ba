-- What holds after any list of calls.
use mathlib.Core.Path.{◌≡◌, refl, sym, ap, ◌∙◌}
use mathlib.Core.Bool.{Bool, true, false}
use mathlib.Core.List.{List, [], ◌∷◌, ◌++◌}
use borrow.Author.Tests.{eq-eqb}
use Rattle.chip.specs.Layout.{block_size, block_of}
use Rattle.std.specs.Prelude.{Ok, Err}
use Rattle.chip.specs.Refusals.{Outcome, Test, slice_test, number_of, is_accepted, refusal_of}
use Rattle.chip.proofs.Laws.Layout.{length-block}
use Rattle.chip.proofs.Laws.Refusals.{AllPass, passed, all_pass, all-accepted}
use Rattle.chip.proofs.Laws.Ready.{Ready}
use Rattle.frame.specs.Due.{due_count}
use Rattle.claims.specs.Bench.{Bench, Lengths, Typed}
use Rattle.claims.specs.Call.{Op, power_up, refresh, own, direct, from_c, Call, whole}
use Rattle.claims.specs.Description.{Description, test_if, tests}
use Rattle.claims.specs.Descriptions.{described}
use Rattle.claims.specs.Step.{Step, step, run, CallsBytes}
use Rattle.claims.specs.After.{RightFromC, InOrder}
use Rattle.claims.proofs.Laws.Invariant.{Invariant}
use Rattle.claims.proofs.Laws.Lawful.{entry_tests, refusal-number}
use Rattle.claims.proofs.Laws.Calls.{lawful}
use Rattle.claims.proofs.Laws.Outcomes.{not-entered-own}
use Rattle.claims.proofs.Laws.Steps.{step-establishes, run-keeps}
use Rattle.claims.proofs.RefusedCalls.{from-c}
use Rattle.claims.proofs.RefreshedLines.{refresh-due-lines}

-- a test that passes, made or not, decides nothing
dropped : (f : Bool) (t : Test) (ts : List Test) → t.passes ≡ true → refusal_of (test_if f t ts) ≡ refusal_of ts
dropped true t ts h = passed t ts h
dropped false t ts h = refl

-- The tests of state and lists pass, so that those of what is the call's own decide.
own-decides : (b : Bench) → Ready b.chip → Lengths b → (d : Description) → refusal_of (tests d b) ≡ refusal_of (d.brings.tests b.chip)
own-decides b ready lengths d =
    dropped d.takes.vram _ _ (eq-eqb _ _ lengths.vram)
    ∙ dropped d.takes.map _ _ (eq-eqb _ _ lengths.map)
    ∙ dropped d.takes.frame _ _ (eq-eqb _ _ lengths.frame)
    ∙ dropped d.takes.notes _ _ (eq-eqb _ _ lengths.notes)
    ∙ dropped d.tests_state _ _ ready.well-formed

-- tests that pass decide nothing
all-dropped : (ts us : List Test) → AllPass ts → refusal_of (ts ++ us) ≡ refusal_of us
all-dropped [] us p = refl
all-dropped (t ∷ ts) us p = passed t (ts ++ us) p.0 ∙ all-dropped ts us p.1

-- from C with the state's own block, where what is lent from C alone passes its tests, a call is refused as it is directly
from-c-refusal : (b : Bench) → Typed b → (op : Op) → RightFromC op b.vram → (step b (whole op (from_c own))).reply.refusal ≡ (step b (whole op direct)).reply.refusal
from-c-refusal b typed op right = ap (λ (s : Step). s.reply.refusal) (from-c b typed.chip (whole op direct) right)

module _ {b : Bench} (inv : Invariant b) where
  typed : Typed b
  typed = record { chip = inv.ready.fits; vram = inv.bytes }

  directly : (op : Op) → (step b (whole op direct)).reply.refusal ≡ number_of (refusal_of ((described op).brings.tests b.chip))
  unfolding step
  directly op = refusal-number (lawful op) b ∙ ap number_of (own-decides b inv.ready inv.lengths (described op))

  -- the tests at entry of VRAM and block pass
  entry-decides : (d : Description) → refusal_of (entry_tests d (block_of b.chip) b) ≡ refusal_of d.from_c.tests
  entry-decides d =
      dropped d.takes.vram _ _ (eq-eqb _ _ inv.lengths.vram)
      ∙ passed (slice_test block_size (block_of b.chip)) d.from_c.tests (eq-eqb _ _ (length-block b.chip inv.ready.fits.eight))

  through-c : (op : Op) → (described op).from_c.NumbersFit b.vram → (step b (whole op (from_c own))).reply.refusal ≡ number_of (refusal_of ((described op).from_c.tests ++ (described op).brings.tests b.chip))
  unfolding step
  through-c op numbers = by (refusal_of (described op).from_c.tests) refl
    where
      by : (r : Outcome) → refusal_of (described op).from_c.tests ≡ r → (step b (whole op (from_c own))).reply.refusal ≡ number_of (refusal_of ((described op).from_c.tests ++ (described op).brings.tests b.chip))
      by (Ok u) ok =
          from-c-refusal b typed op (ok, numbers)
          ∙ directly op
          ∙ sym (ap number_of (all-dropped (described op).from_c.tests ((described op).brings.tests b.chip) (all_pass (described op).from_c.tests (ap is_accepted ok))))
      by (Err r) e =
          ap (λ (s : Step). s.reply.refusal) (not-entered-own (lawful op) (whole op direct).lists b inv.ready.fits (entry-decides (described op) ∙ e))
          ∙ sym (ap number_of ((lawful op).only-from-c.first b.chip e))

  in_order : InOrder b
  in_order = (inv.ready.well-formed, typed, inv.lengths, λ op. (directly op, through-c op))

-- Take a bench whose four lists have their lengths, whose state fits its types and whose VRAM holds bytes, and a call of it that
-- is accepted and establishes the invariant: power-up, reset, a full draw, or reading a snapshot of bytes; then any list of
-- calls, of which nothing is asked but that the bytes they bring are bytes. Then the state is well-formed and fits its types,
-- VRAM holds bytes, and the lists have their lengths. So a call that is lent the bench's lists, directly or from C with the
-- state's own block, is refused only for its own slices for a line and its origins, line or column number, snapshot or log, and the
-- run of a log from C for its outcome too. All other calls are accepted.
--
-- It rests on `step` (specs/Step.antt). Demand 2's "after any calls" rests on it: the contracts say what each call does in a
-- well-formed state, and this says that no list of calls leads to another.
pub after-any-calls :
    (start : Bench) → Lengths start → Typed start
    → (first : Call) → (described first.op).establishes ≡ true → (described first.op).brings.AreBytes → (step start first).reply.refusal ≡ 0
    → (calls : List Call) → CallsBytes calls
    → InOrder (run (step start first).bench calls)
after-any-calls start lengths typed first does brings accepted calls bytes =
    in_order (run-keeps (step-establishes start lengths typed first does brings accepted) calls bytes)

-- Power-up is accepted on every such bench, directly and from C, so that the claims about lists of calls are not empty.
pub power-up-accepted : (start : Bench) → Lengths start → Typed start → ((step start (whole power_up direct)).reply.refusal ≡ 0) × ((step start (whole power_up (from_c own))).reply.refusal ≡ 0)
unfolding step
power-up-accepted start lengths typed =
    let ok = (lawful power_up).accepted start (all-accepted (tests (described power_up) start) (eq-eqb _ _ lengths.vram, tt)) in
    (ok, from-c-refusal start typed power_up (refl, tt) ∙ ok)

-- After power-up and any list of calls a refresh is accepted, directly and from C, and answers the number of due lines.
pub refresh-after-power-up :
    (start : Bench) → Lengths start → Typed start
    → (calls : List Call) → CallsBytes calls
    → let b = run (step start (whole power_up direct)).bench calls in
    let count = due_count b.chip.redraw b.chip.registers b.vram b.map in
    let directly = step b (whole refresh direct) in
    let from-c = step b (whole refresh (from_c own)) in
    (directly.reply.refusal ≡ 0) × (directly.reply.values ≡ count ∷ []) × (from-c.reply.refusal ≡ 0) × (from-c.reply.values ≡ count ∷ [])
refresh-after-power-up start lengths typed calls bytes =
    let inv = run-keeps (step-establishes start lengths typed (whole power_up direct) refl tt (power-up-accepted start lengths typed).0) calls bytes in
    let b = run (step start (whole power_up direct)).bench calls in
    let refusals = (in_order inv).3 refresh in
    let directly = refresh-due-lines b inv.ready.fits (whole refresh direct) refl refusals.0 in
    let from-c = refresh-due-lines b inv.ready.fits (whole refresh (from_c own)) refl (refusals.1 tt) in
    (refusals.0, directly.count, refusals.1 tt, from-c.count)
