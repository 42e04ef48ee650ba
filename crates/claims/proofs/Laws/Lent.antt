-- What was lent, and what comes back.
use Prim.Native.Nat.{ℕ}
use mathlib.Core.Path.{◌≡◌, refl, sym}
use mathlib.Core.Bool.{Bool, true, false, ◌&&◌, ◌||◌}
use mathlib.Core.List.{List}
use lib.Dec.{eqb}
use lib.ListN.{length}
use borrow.Author.Tests.{eqb-true}
use Rattle.chip.specs.State.{vram_size}
use Rattle.chip.specs.Refusals.{Test}
use Rattle.chip.specs.declared.state.Chip.{Chip}
use Rattle.chip.proofs.Laws.Ranges.{and-false}
use Rattle.chip.proofs.Laws.Refusals.{AllPass, differ}
use Rattle.claims.specs.Bench.{Bench}
use Rattle.claims.specs.Call.{Lent, own, other, LentLists}
use Rattle.claims.specs.Description.{Description, test_if, tests, Left}
use Rattle.claims.specs.Step.{lent, back, lent_bench, bench_back}
use Rattle.claims.specs.After.{is_other, other_list}
use Rattle.claims.proofs.Laws.Invariant.{bench}
use Rattle.claims.proofs.Laws.Lawful.{as_lent, bench_of}

-- A test that may be made.
pub passed-if : (f : Bool) (t : Test) (ts : List Test) → AllPass (test_if f t ts) → (f ≡ true → t.passes ≡ true) × AllPass ts
passed-if true t ts p = (λ e. p.0, p.1)
passed-if false t ts p = (λ e. absurd (differ (sym e)), p)

module _ {n : ℕ} where
  -- A list that passed the test of its length, or is not taken, was the bench's own, and what the call left of it stays.
  record Own (f : Bool) (x : Lent n) (l : List ℕ) : Type 0 where
    given : lent f x l ≡ l
    stays : (new : List ℕ) → back f x new l ≡ new
    not-other : (f && is_other x) ≡ false

  is-own : (f : Bool) (x : Lent n) (l : List ℕ) → (f ≡ true → eqb (length (lent f x l)) n ≡ true) → Own f x l
  is-own f own l p = record { given = refl; stays = λ new. refl; not-other = and-false f }
  is-own false (other k wrong) l p = record { given = refl; stays = λ new. refl; not-other = refl }
  is-own true (other k wrong) l p = absurd (wrong (eqb-true _ _ (p refl)))

  -- A list that the call left as lent is the bench's afterwards.
  back-same : (f : Bool) (x : Lent n) (l : List ℕ) → back f x (lent f x l) l ≡ l
  back-same f own l = refl
  back-same true (other k wrong) l = refl
  back-same false (other k wrong) l = refl

module _ (d : Description) (lists : LentLists) (b : Bench) where
  abbrev lends : Bench
  lends = lent_bench d.takes lists b

  record OwnLists : Type 0 where
    vram : Own d.takes.vram lists.vram b.vram
    map : Own d.takes.map lists.map b.map
    frame : Own d.takes.frame lists.frame b.frame
    notes : Own d.takes.notes lists.notes b.notes

  own-lists : AllPass (tests d lends) → OwnLists
  own-lists p =
      let v = passed-if d.takes.vram _ _ p in
      let m = passed-if d.takes.map _ _ v.1 in
      let f = passed-if d.takes.frame _ _ m.1 in
      let n = passed-if d.takes.notes _ _ f.1 in
      record {
        vram = is-own d.takes.vram lists.vram b.vram v.0;
        map = is-own d.takes.map lists.map b.map m.0;
        frame = is-own d.takes.frame lists.frame b.frame f.0;
        notes = is-own d.takes.notes lists.notes b.notes n.0;
      }

  -- So, where all tests pass, the call found the bench itself, no other list was lent, and what it left is the bench after it.
  module _ (p : AllPass (tests d lends)) where
    pub lent-own : lends ≡ b
    lent-own = let o = own-lists p in λ i. bench b.chip (o.vram.given i) (o.map.given i) (o.frame.given i) (o.notes.given i)

    pub none_other : other_list d.takes lists ≡ false
    none_other = let o = own-lists p in λ i. o.vram.not-other i || o.map.not-other i || o.frame.not-other i || o.notes.not-other i

    pub back-own : (l : Left Chip) → bench_back d.takes lists b l.state l ≡ bench_of l
    back-own l = let o = own-lists p in λ i. bench l.state (o.vram.stays l.vram i) (o.map.stays l.map i) (o.frame.stays l.frame i) (o.notes.stays l.notes i)

  -- VRAM by itself: one that passed the test of its length, or is not taken, is the bench's own.
  pub vram-own : (d.takes.vram ≡ true → eqb (length lends.vram) vram_size ≡ true) → lends.vram ≡ b.vram
  vram-own passes = (is-own d.takes.vram lists.vram b.vram passes).given

  -- Where the call was refused, the bench is as it was.
  module _ {S : Type 0} where
    pub back-lent : (n : ℕ) (s : S) → bench_back d.takes lists b b.chip (as_lent d n s lends) ≡ b
    back-lent n s = λ i.
        bench b.chip
        (back-same d.takes.vram lists.vram b.vram i)
        (back-same d.takes.map lists.map b.map i)
        (back-same d.takes.frame lists.frame b.frame i)
        (back-same d.takes.notes lists.notes b.notes i)
