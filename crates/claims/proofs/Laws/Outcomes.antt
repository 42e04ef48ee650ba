-- How the step of any lawful call comes out, whatever it was lent.
use Prim.Native.Nat.{ℕ}
use mathlib.Core.Path.{◌≡◌, refl, sym, ap, subst, subst⁻¹, ◌∙◌}
use mathlib.Core.Bool.{Bool, true, false, ◌||◌}
use mathlib.Core.List.{List, ◌∷◌}
use lib.Dec.{eqb}
use lib.ListN.{length}
use borrow.Author.Tests.{eqb-true, eq-eqb}
use Rattle.chip.specs.State.{Fits, vram_size}
use Rattle.chip.specs.Layout.{block_size, block_of}
use Rattle.std.specs.Prelude.{Ok, Err}
use Rattle.chip.specs.Refusals as refusals
use Rattle.chip.specs.Refusals.{Test, refusal_number, is_accepted, refusal_of, vram_test, slice_test}
use Rattle.chip.specs.declared.state.Chip.{Chip}
use Rattle.chip.specs.declared.refusal.Refusal.{Refusal}
use Rattle.chip.proofs.Laws.Layout.{chip-block, length-block}
use Rattle.chip.proofs.Laws.Refusals.{AllPass, all_pass, all-accepted}
use Rattle.claims.specs.Bench.{Bench}
use Rattle.claims.specs.Call.{own, other, LentLists, Caller, direct, from_c}
use Rattle.claims.specs.Description.{Description, test_if, tests, Left}
use Rattle.claims.specs.Step.{lent_bench, bench_back, Step, step_of}
use Rattle.claims.specs.After.{refused_step, other_block, other_list, FitNumbers}
use Rattle.claims.proofs.Laws.Lawful.{as_lent, bench_of, decoded_left, entry_tests, Lawful, refusal_above}
use Rattle.claims.proofs.Laws.Lent.{passed-if, lent-own, none_other, back-own, back-lent, vram-own}

-- that tests refuse a call, and with which refusal
record Refused (ts : List Test) : Type 0 where
  by : Refusal
  is : refusal_of ts ≡ Err by

-- a call is refused if its tests do not all pass
not-accepted : (ts : List Test) → (AllPass ts → ⊥) → Refused ts
not-accepted ts fails = by (refusal_of ts) refl
  where
    by : (r : refusals.Outcome) → refusal_of ts ≡ r → Refused ts
    by (Ok u) ok = absurd (fails (all_pass ts (ap is_accepted ok)))
    by (Err r) e = record { by = r; is = e }

-- VRAM's length is first in the order: where it is what refuses a call from C at entry, since the other tests, more, pass, it
-- refuses the direct call too.
vram-decides : (f : Bool) (vram : List ℕ) (more ts : List Test) → AllPass more → {r : Refusal}
    → refusal_of (test_if f (vram_test vram) more) ≡ Err r
    → refusal_of (test_if f (vram_test vram) ts) ≡ Err r
vram-decides false vram more ts p e = let ok = all-accepted more p in cc
vram-decides true vram more ts p {r} e = by (eqb (length vram) vram_size) refl
  where
    by : (x : Bool) → eqb (length vram) vram_size ≡ x → refusal_of (vram_test vram ∷ ts) ≡ Err r
    by true ok = let all = all-accepted (vram_test vram ∷ more) (ok, p) in cc
    by false wrong = rw wrong (rw wrong at e)

-- What is left of a direct call, as a step.
abbrev pub stepped : Left Chip → Step
stepped l = record { bench = bench_of l; reply = l.reply }

-- The step of a call on b: it passed its tests, was lent nothing wrong, and is the direct call on b itself; or it was refused and
-- left everything.
pub data Outcome (d : Description) (wrong : Bool) (b : Bench) (s : Step) : Type 0 where
  accepted : AllPass (tests d b) → wrong ≡ false → s ≡ stepped (d.directly b) → Outcome d wrong b s
  refused : (n : ℕ) → (n ≡ 0 → ⊥) → s ≡ refused_step d n b → Outcome d wrong b s

module _ {d : Description} (law : Lawful d) (lists : LentLists) (b : Bench) where
  abbrev lends : Bench
  lends = lent_bench d.takes lists b

  -- the step that leaves this of what was lent
  abbrev back : Left Chip → Step
  back l = record { bench = bench_back d.takes lists b l.state l; reply = l.reply }

  -- refused, by whichever tests
  left-all : (n : ℕ) → back (as_lent d n b.chip lends) ≡ refused_step d n b
  left-all n = λ i. record { bench = back-lent d lists b n b.chip i; reply = (as_lent d n b.chip lends).reply }

  directly-out : Outcome d (other_list d.takes lists) b (step_of d direct lists b)
  directly-out = by (refusal_of (tests d lends)) refl
    where
      by : (r : refusals.Outcome) → refusal_of (tests d lends) ≡ r → Outcome d (other_list d.takes lists) b (step_of d direct lists b)
      by (Ok u) ok =
          let p = all_pass (tests d lends) (ap is_accepted ok) in
          let same = lent-own d lists b p in
          accepted (subst (λ (k : Bench). AllPass (tests d k)) same p) (none_other d lists b p)
          ((λ i. record { bench = back-own d lists b p (d.directly lends) i; reply = (d.directly lends).reply }) ∙ ap (λ (k : Bench). stepped (d.directly k)) same)
      by (Err r) e = refused (refusal_number r) (refusal_above r) (ap back (law.refused lends e) ∙ left-all _)

  module _ (fits : Fits b.chip) where
    abbrev block : List ℕ
    block = block_of b.chip

    -- Refused at entry, with the state's own block or one of the wrong length.
    pub not-entered-own : {r : Refusal} → refusal_of (entry_tests d block lends) ≡ Err r → step_of d (from_c own) lists b ≡ refused_step d (refusal_number r) b
    not-entered-own {r} e =
        let n = refusal_number r in
        ap (λ (l : Left (List ℕ)). back (decoded_left l)) (law.not_entered block lends e)
        ∙ (λ i. back (as_lent d n (chip-block b.chip fits.eight i) lends))
        ∙ left-all n

    wrong-block : (k : List ℕ) (wrong : length k ≡ block_size → ⊥) → Outcome d true b (step_of d (from_c (other k wrong)) lists b)
    wrong-block k wrong =
        let e = not-accepted (entry_tests d k lends) (λ p. wrong (eqb-true _ _ (passed-if d.takes.vram _ _ p).1.0)) in
        let n = refusal_number e.by in
        let left = law.not_entered k lends e.is in
        refused n (refusal_above e.by) ((λ i. record { bench = bench_back d.takes lists b b.chip (left i); reply = (left i).reply }) ∙ left-all n)

    module _ (numbers : d.from_c.NumbersFit b.vram) where
      -- From C with the state's own block it is the direct call, where what is lent from C alone passes its tests.
      pub from-c-same : AllPass d.from_c.tests → step_of d (from_c own) lists b ≡ step_of d direct lists b
      from-c-same p = by (refusal_of (entry_tests d block lends)) refl
        where
          by : (r : refusals.Outcome) → refusal_of (entry_tests d block lends) ≡ r → step_of d (from_c own) lists b ≡ step_of d direct lists b
          by (Ok u) ok =
              let vram = vram-own d lists b (passed-if d.takes.vram _ _ (all_pass (entry_tests d block lends) (ap is_accepted ok))).0 in
              ap back (law.entered lends fits (subst⁻¹ d.from_c.NumbersFit vram numbers) ok)
          by (Err r) e =
              let refuses : refusal_of (tests d lends) ≡ Err r = vram-decides d.takes.vram lends.vram (slice_test block_size block ∷ d.from_c.tests) _ (eq-eqb _ _ (length-block b.chip fits.eight), p) e in
              not-entered-own e ∙ sym (ap back (law.refused lends refuses) ∙ left-all _)

      -- Where it does not, the call is refused.
      own_block : Outcome d (other_list d.takes lists) b (step_of d (from_c own) lists b)
      own_block = by (refusal_of d.from_c.tests) refl
        where
          by : (r : refusals.Outcome) → refusal_of d.from_c.tests ≡ r → Outcome d (other_list d.takes lists) b (step_of d (from_c own) lists b)
          by (Ok u) ok = subst⁻¹ (Outcome d (other_list d.takes lists) b) (from-c-same (all_pass d.from_c.tests (ap is_accepted ok))) directly-out
          by (Err r) e =
              let fails = not-accepted (entry_tests d block lends) (λ p. let ok = all-accepted d.from_c.tests (passed-if d.takes.vram _ _ p).1.1 in cc) in
              refused _ (refusal_above fails.by) (not-entered-own fails.is)

    pub outcome : (caller : Caller) → FitNumbers caller d b.vram → Outcome d (other_block caller || other_list d.takes lists) b (step_of d caller lists b)
    outcome direct numbers = directly-out
    outcome (from_c own) numbers = own_block numbers
    outcome (from_c (other k wrong)) numbers = wrong-block k wrong
