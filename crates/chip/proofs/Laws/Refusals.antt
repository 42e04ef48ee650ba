-- Refusals and their numbers.
use Prim.Native.Nat.{ℕ, ◌<◌}
use mathlib.Core.Path.{◌≡◌, refl, sym, ap, ap₂, ◌∙◌}
use mathlib.Core.Bool.{Bool, true, false, cond, not, ◌&&◌, ◌||◌}
use mathlib.Core.List.{List, [], ◌∷◌}
use borrow.Author.Tests.{eqb-false, eq-eqb}
use lib.Dec.{eqb, lit<}
use Rattle.std.specs.Prelude.{Result, Ok, Err}
use Rattle.chip.specs.Refusals.{Outcome, refusal_number, is_accepted, order, Test, gives, first_given, refusal_of, if_accepted, giving, value_of}
use Rattle.chip.proofs.Laws.Ranges.{and-false}
use Rattle.chip.specs.declared.refusal.Refusal.{Refusal}
use Rattle.chip.specs.declared.refusal.Refusal.TheVariants.{VramLength, SliceLength, IllFormed, LineNumber, SnapshotLength, Trailer, Checksum, LogForm, LogRecord, ColumnNumber}

-- a test that passes decides nothing
pub passed : (t : Test) (ts : List Test) → t.passes ≡ true → refusal_of (t ∷ ts) ≡ refusal_of ts
passed t ts h = simp (h, and-false)

pub differ : true ≡ false → ⊥
differ e = eqb-false 0 0 e refl

pub neither : (p q : Bool) → (p || q) ≡ false → (p ≡ false) × (q ≡ false)
neither true q e = absurd (differ e)
neither false q e = (refl, e)

-- the one outcome of tests that all pass
pub is-accepted : (r : Outcome) → is_accepted r ≡ true → r ≡ Ok tt
is-accepted (Ok x) h = refl
is-accepted (Err e) h = absurd (differ (sym h))

-- what an accepted call leaves is the new
module _ {A B : Type 0} {r : Result A Refusal} {x : A} (ok : r ≡ Ok x) (new old : B) where
  pub the-new : if_accepted r new old ≡ new
  the-new = rw ok

-- what an accepted call gives is its value, and only an accepted call gives one
module _ {A : Type 0} where
  pub the-value : {r : Outcome} → r ≡ Ok tt → (v : A) → giving r v ≡ Ok v
  the-value ok v = rw ok

  pub value-given : (r : Outcome) (v : A) {w : A} → giving r v ≡ Ok w → r ≡ Ok tt
  value-given (Ok x) v e = refl
  value-given (Err n) v e = cc

-- the number that a call gives is a byte
pub given-byte : (r : Outcome) (x : ℕ) → (is_accepted r ≡ true → x < 256) → value_of (giving r x) < 256
given-byte (Ok y) x small = small refl
given-byte (Err n) x small = lit< tt

-- every test of a list passes
abbrev pub AllPass : List Test → Type 0
AllPass [] = Unit {0}
AllPass (t ∷ ts) = (t.passes ≡ true) × AllPass ts

-- A call is accepted where every test passes ..
none-given : (ts : List Test) → AllPass ts → (r : Refusal) → gives ts r ≡ false
none-given [] h r = refl
none-given (t ∷ ts) h r =
    ap₂ (λ (p q : Bool). eqb (refusal_number t.refusal) (refusal_number r) && not p || q) h.0 (none-given ts h.1 r)
    ∙ ap (λ (b : Bool). b || false) (and-false (eqb (refusal_number t.refusal) (refusal_number r)))

pub all-accepted : (ts : List Test) → AllPass ts → refusal_of ts ≡ Ok tt
all-accepted ts h = by order
  where
    by : (rs : List Refusal) → first_given rs ts ≡ Ok tt
    by [] = refl
    by (r ∷ rs) = ap (λ (b : Bool). cond b (Err r) (first_given rs ts)) (none-given ts h r) ∙ by rs

-- .. and only there.
peel : (g : Bool) (r : Refusal) (rest : Outcome) → is_accepted (cond g (Err r) rest) ≡ true → (g ≡ false) × (is_accepted rest ≡ true)
peel true r rest e = absurd (differ (sym e))
peel false r rest e = (refl, e)

-- that no test gives one of these refusals
abbrev NoneGiven : List Test → List Refusal → Type 0
NoneGiven ts [] = Unit {0}
NoneGiven ts (r ∷ rs) = (gives ts r ≡ false) × NoneGiven ts rs

none_of : (ts : List Test) (rs : List Refusal) → is_accepted (first_given rs ts) ≡ true → NoneGiven ts rs
none_of ts [] e = tt
none_of ts (r ∷ rs) e = let p = peel (gives ts r) r (first_given rs ts) e in (p.0, none_of ts rs p.1)

nothing-given : (ts : List Test) → is_accepted (refusal_of ts) ≡ true → (r : Refusal) → gives ts r ≡ false
nothing-given ts e = by (none_of ts order e)
  where
    by : NoneGiven ts order → (r : Refusal) → gives ts r ≡ false
    by none VramLength = none.0
    by none SliceLength = none.1.0
    by none SnapshotLength = none.1.1.0
    by none Trailer = none.1.1.1.0
    by none Checksum = none.1.1.1.1.0
    by none IllFormed = none.1.1.1.1.1.0
    by none LineNumber = none.1.1.1.1.1.1.0
    by none ColumnNumber = none.1.1.1.1.1.1.1.0
    by none LogForm = none.1.1.1.1.1.1.1.1.0
    by none LogRecord = none.1.1.1.1.1.1.1.1.1.0

passes-all : (ts : List Test) → ((r : Refusal) → gives ts r ≡ false) → AllPass ts
passes-all [] h = tt
passes-all (t ∷ ts) h = (
  own t.passes (gives ts t.refusal) (eqb (refusal_number t.refusal) (refusal_number t.refusal)) (eq-eqb (refusal_number t.refusal) (refusal_number t.refusal) refl) (h t.refusal),
  passes-all ts (λ r. (neither (eqb (refusal_number t.refusal) (refusal_number r) && not t.passes) (gives ts r) (h r)).1),
)
  where
    own : (p rest same : Bool) → same ≡ true → (same && not p || rest) ≡ false → p ≡ true
    own true rest same s e = refl
    own false rest true s e = absurd (differ e)
    own false rest false s e = absurd (differ (sym s))

pub all_pass : (ts : List Test) → is_accepted (refusal_of ts) ≡ true → AllPass ts
all_pass ts e = passes-all ts (nothing-given ts e)
