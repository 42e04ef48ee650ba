-- The laws of a call, in one record.
use Prim.Native.Nat.{ℕ, ◌+◌, ◌*◌, ◌/◌, ◌%◌, ◌<◌}
use native.Mathlib.Omega.{arith}
use mathlib.Core.Path.{◌≡◌, refl, sym, ap, ◌∙◌}
use mathlib.Core.Bool.{false, cond}
use mathlib.Core.List.{List, [], ◌∷◌, ◌++◌}
use lib.Dec.{eqb, lit<}
use lib.ListN.{length, get_or, replicate}
use borrow.Author.Tests.{eq-eqb, ne_eqb}
use Rattle.std.specs.Prelude.{Result, Ok, Err}
use Rattle.chip.specs.State.{Bytes, Fits}
use Rattle.chip.specs.Layout.{block_size, block_of, chip_of}
use Rattle.chip.specs.Refusals.{Outcome, Test, refusal_number, number_of, is_accepted, refusal_of, vram_test, slice_test}
use Rattle.chip.specs.declared.state.Chip.{Chip}
use Rattle.chip.specs.declared.refusal.Refusal.{Refusal}
use Rattle.chip.specs.declared.refusal.Refusal.TheVariants.{VramLength, SliceLength, IllFormed, LineNumber, SnapshotLength, Trailer, Checksum, LogForm, LogRecord, ColumnNumber}
use Rattle.chip.proofs.Laws.Layout.{chip-block}
use Rattle.chip.proofs.Laws.Refusals.{AllPass, differ}
use Rattle.claims.specs.Bench.{Bench, Lengths, Typed}
use Rattle.claims.specs.Description.{Left, Brings, OnlyFromC, nothing_more, Description, test_if, tests, of_result, leaves}
use Rattle.claims.proofs.Laws.Invariant.{bench, with_state, Effect}

module _ {S : Type 0} where
  -- What a call leaves that is refused with the number n.
  abbrev pub as_lent : Description → ℕ → S → Bench → Left S
  as_lent d n s b = leaves (record { state = s; refusal = n; values = replicate d.numbers 0 }) b.vram b.map b.frame b.notes d.brings.slices

-- The bench that a direct call leaves, and what a call from C leaves with its block decoded.
abbrev pub bench_of : Left Chip → Bench
bench_of l = bench l.state l.vram l.map l.frame l.notes

abbrev pub decoded_left : Left (List ℕ) → Left Chip
decoded_left l = record { state = chip_of l.state; vram = l.vram; map = l.map; frame = l.frame; notes = l.notes; reply = l.reply }

-- The tests that a call from C makes before it decodes the block: the length of VRAM, where it takes it, the block's, and those of
-- what is lent from C alone.
abbrev pub entry_tests : Description → List ℕ → Bench → List Test
entry_tests d block b = test_if d.takes.vram (vram_test b.vram) (slice_test block_size block ∷ d.from_c.tests)

-- Where a test of what is lent from C alone refuses the call, the tests of what it brings do not come before it in the order. The
-- numbers fit if VRAM holds bytes and the call brings bytes.
pub record LawfulFromC (o : OnlyFromC) (brings : Brings) : Type 0 where
  pub first : (c : Chip) {r : Refusal} → refusal_of o.tests ≡ Err r → refusal_of (o.tests ++ brings.tests c) ≡ Err r
  pub numbers_fit : (vram : List ℕ) → Bytes vram → brings.AreBytes → o.NumbersFit vram

pub nothing-more : {brings : Brings} → LawfulFromC nothing_more brings
nothing-more = record { first = λ c e. cc; numbers_fit = λ vram bytes h. tt }

pub record Lawful (d : Description) : Type 0 where
  -- Its tests are those that its description gives: accepted by them it answers no refusal, and refused it leaves everything.
  pub accepted : (b : Bench) → refusal_of (tests d b) ≡ Ok tt → (d.directly b).reply.refusal ≡ 0
  pub refused : (b : Bench) {r : Refusal} → refusal_of (tests d b) ≡ Err r → d.directly b ≡ as_lent d (refusal_number r) b.chip b
  pub only-from-c : LawfulFromC d.from_c d.brings
  -- From C, refused at entry it leaves everything; past that, with the state's own block, it is the direct call.
  pub not_entered : (block : List ℕ) (b : Bench) {r : Refusal} → refusal_of (entry_tests d block b) ≡ Err r → d.through_c block b ≡ as_lent d (refusal_number r) block b
  pub entered : (b : Bench) → Fits b.chip → d.from_c.NumbersFit b.vram → let block = block_of b.chip in refusal_of (entry_tests d block b) ≡ Ok tt → decoded_left (d.through_c block b) ≡ d.directly b
  -- Accepted, it has one of the effects.
  pub effect : (b : Bench) → d.brings.AreBytes → Lengths b → Typed b → AllPass (tests d b) → refusal_of (tests d b) ≡ Ok tt → Effect d.establishes b (bench_of (d.directly b))

-- The refusal that a lawful call answers is that of its tests.
pub refusal-number : {d : Description} → Lawful d → (b : Bench) → (d.directly b).reply.refusal ≡ number_of (refusal_of (tests d b))
refusal-number {d} law b = by (refusal_of (tests d b)) refl
  where
    by : (r : Outcome) → refusal_of (tests d b) ≡ r → (d.directly b).reply.refusal ≡ number_of (refusal_of (tests d b))
    by (Ok u) ok = law.accepted b ok ∙ sym (ap number_of ok)
    by (Err r) e = ap (λ (l : Left Chip). l.reply.refusal) (law.refused b e) ∙ sym (ap number_of e)

-- What follows is for the calls whose numbers come from C in one result, 256 times the refusal number plus the number read.

-- A result of refusal at entry.
pub by_number : {t : Left (List ℕ)} {block vram map frame notes : List ℕ} {slices : List (List ℕ)} (n : ℕ)
    → t ≡ leaves (of_result block (n * 256)) vram map frame notes slices
    → t ≡ leaves (record { state = block; refusal = n; values = 0 ∷ [] }) vram map frame notes slices
by_number {block = block} {vram} {map} {frame} {notes} {slices} n is =
    let high : n * 256 / 256 ≡ n = omega arith in
    let low : n * 256 % 256 ≡ 0 = omega arith in
    is ∙ (λ i. leaves (record { state = block; refusal = high i; values = low i ∷ [] }) vram map frame notes slices)

-- A direct call's numbers in a result, beside this block.
abbrev pub in_result : List ℕ → Left Chip → Left (List ℕ)
in_result block l =
    leaves (of_result block (l.reply.refusal * 256 + get_or l.reply.values 0 0)) l.vram l.map l.frame l.notes l.reply.slices

pub parts : (n x : ℕ) → x < 256 → ((n * 256 + x) / 256 ≡ n) × ((n * 256 + x) % 256 ≡ x)
parts n x h = (omega arith, omega arith)

-- No refusal has the number 0, so the number says whether a call is accepted.
pub refusal_above : (r : Refusal) → refusal_number r ≡ 0 → ⊥
refusal_above r = λ z. differ (sym (eq-eqb _ _ z) ∙ by r)
  where
    by : (k : Refusal) → eqb (refusal_number k) 0 ≡ false
    by VramLength = refl
    by SliceLength = refl
    by IllFormed = refl
    by LineNumber = refl
    by SnapshotLength = refl
    by Trailer = refl
    by Checksum = refl
    by LogForm = refl
    by LogRecord = refl
    by ColumnNumber = refl

pub accepted-number : (r : Result ℕ Refusal) → eqb (number_of r) 0 ≡ is_accepted r
accepted-number (Ok x) = refl
accepted-number (Err r) = ne_eqb (refusal_number r) 0 (refusal_above r)

-- The result read back, where the call answers one byte v.
module _ (l : Left Chip) (block : List ℕ) {v : ℕ} (one : l.reply.values ≡ v ∷ []) (small : v < 256) where
  read_back : chip_of block ≡ l.state → decoded_left (in_result block l) ≡ l
  read_back state =
      let first : get_or l.reply.values 0 0 ≡ v = ap (λ (vs : List ℕ). get_or vs 0 0) one in
      let both = parts l.reply.refusal (get_or l.reply.values 0 0) (rw first small) in
      let low : (l.reply.refusal * 256 + get_or l.reply.values 0 0) % 256 ∷ [] ≡ l.reply.values = ap (λ (x : ℕ). x ∷ []) (both.1 ∙ first) ∙ sym one in
      λ i.
      record {
        state = state i;
        vram = l.vram;
        map = l.map;
        frame = l.frame;
        notes = l.notes;
        reply = record { refusal = both.0 i; values = low i; slices = l.reply.slices };
      }

-- The block after a call that stores: the next state's where the call is accepted.
abbrev pub stored_block : List ℕ → Left Chip → List ℕ
stored_block block l = cond (eqb l.reply.refusal 0) (block_of l.state) block

module _ (d : Description) (b : Bench) (fits : Fits b.chip) (v : ℕ) (small : v < 256) (single : d.numbers ≡ 1)
    (refuses : (r : Refusal) → refusal_of (tests d b) ≡ Err r → d.directly b ≡ as_lent d (refusal_number r) b.chip b) where
  abbrev block : List ℕ
  block = block_of b.chip

  decodes : chip_of block ≡ b.chip
  decodes = chip-block b.chip fits.eight

  -- What a refused call answers, read back.
  refused_back : (r : Refusal) → decoded_left (in_result block (as_lent d (refusal_number r) b.chip b)) ≡ as_lent d (refusal_number r) b.chip b
  refused_back r =
      let one : replicate d.numbers 0 ≡ 0 ∷ [] = ap (λ (n : ℕ). replicate n 0) single in
      read_back (as_lent d (refusal_number r) b.chip b) block one (lit< tt) decodes

  -- The block is lent to read only, and the direct call hands the state back as it was.
  pub only-reads : d.through_c block b ≡ in_result block (d.directly (with_state (chip_of block) b))
      → (refusal_of (tests d b) ≡ Ok tt → ((d.directly b).state ≡ b.chip) × ((d.directly b).reply.values ≡ v ∷ []))
      → decoded_left (d.through_c block b) ≡ d.directly b
  only-reads is accepts =
      ap decoded_left is ∙ (λ i. decoded_left (in_result block (d.directly (with_state (decodes i) b)))) ∙ by (refusal_of (tests d b)) refl
    where
      by : (r : Outcome) → refusal_of (tests d b) ≡ r → decoded_left (in_result block (d.directly b)) ≡ d.directly b
      by (Ok u) ok = read_back (d.directly b) block (accepts ok).1 small (decodes ∙ sym (accepts ok).0)
      by (Err r) e = rw (refuses r e) (refused_back r)

  -- The block of an accepted call holds the next state.
  pub stores : (let held = d.directly (with_state (chip_of block) b) in d.through_c block b ≡ in_result (stored_block block held) held)
      → (refusal_of (tests d b) ≡ Ok tt → ((d.directly b).reply.refusal ≡ 0) × ((d.directly b).reply.values ≡ v ∷ []) × (length (d.directly b).state.registers ≡ 8))
      → decoded_left (d.through_c block b) ≡ d.directly b
  stores is accepts =
      ap decoded_left is
      ∙ (λ i. let k = d.directly (with_state (decodes i) b) in decoded_left (in_result (stored_block block k) k))
      ∙ by (refusal_of (tests d b)) refl
    where
      by : (r : Outcome) → refusal_of (tests d b) ≡ r → decoded_left (in_result (stored_block block (d.directly b)) (d.directly b)) ≡ d.directly b
      by (Ok u) ok =
          let l = d.directly b in
          let p = accepts ok in
          read_back l (stored_block block l) p.1 small
          (ap (λ (n : ℕ). chip_of (cond (eqb n 0) (block_of l.state) block)) p.0 ∙ chip-block l.state p.2)
      by (Err r) e =
          let l : Left Chip = as_lent d (refusal_number r) b.chip b in
          rw (refuses r e)
          ((λ i. decoded_left (in_result (cond (ne_eqb (refusal_number r) 0 (refusal_above r) i) (block_of l.state) block) l)) ∙ refused_back r)
