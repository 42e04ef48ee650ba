-- The records that bytes hold, from record i on: record i and those after it, and none where less than two bytes are left.
use Prim.Native.Nat.{ℕ, zero, suc, ◌+◌, ◌*◌, ◌%◌, ◌≤◌, ◌<◌}
use native.Mathlib.Omega.{arith}
use native.Mathlib.Numerals.{add-one}
use mathlib.Core.Path.{◌≡◌, refl, sym, ap, ◌∙◌}
use mathlib.Core.Bool.{Bool, ◌&&◌}
use mathlib.Core.List.{List, [], ◌∷◌, ◌++◌}
use lib.ListN.{length, get_or, drop, length-drop}
use lib.Seq.{drop-cons}
use Rattle.std.proofs.Math.Bool.{and_assoc, and-true}
use Rattle.port_log.specs.Records.{operation_of, allowed, all_allowed, records_of, record_at}
use Rattle.port_log.specs.declared.records.Operation.TheVariants.{Reset}
use Rattle.port_log.specs.declared.records.Record.{Record}

pub records-none : (l : List ℕ) → length l < 2 → records_of l ≡ []
unfolding records_of
records-none [] h = refl
records-none (x ∷ []) h = refl
records-none (x ∷ v ∷ l) h = absurd (omega arith)

pub records-next : (l : List ℕ) (i : ℕ) → 2 * i + 1 < length l → records_of (drop (2 * i) l) ≡ record_at l i ∷ records_of (drop (2 * (i + 1)) l)
unfolding records_of
records-next l i h =
    let behind : suc (2 * i + 1) ≡ 2 * (i + 1) = omega arith in
    ap records_of
    (drop-cons l (2 * i) 0 (omega arith)
    ∙ ap (λ (n : ℕ). get_or l (2 * i) 0 ∷ drop n l) (sym (add-one (2 * i)))
    ∙ ap (λ (t : List ℕ). get_or l (2 * i) 0 ∷ t) (drop-cons l (2 * i + 1) 0 h)
    ∙ ap (λ (n : ℕ). get_or l (2 * i) 0 ∷ get_or l (2 * i + 1) 0 ∷ drop n l) behind)

-- Whether the records from i on are allowed: record i decides, and those after it.
abbrev pub allowed_from : ℕ → List ℕ → Bool
allowed_from i l = all_allowed (records_of (drop (2 * i) l))

pub allowed_next : (before : Bool) (l : List ℕ) (i : ℕ) → 2 * i + 1 < length l → (before && allowed_from i l) ≡ ((before && allowed (record_at l i)) && allowed_from (i + 1) l)
unfolding all_allowed
allowed_next before l i h = rw (records-next l i h) (sym (and_assoc before (allowed (record_at l i)) (allowed_from (i + 1) l)))

pub allowed_none : (before : Bool) (l : List ℕ) (i : ℕ) → length l ≤ 2 * i + 1 → (before && allowed_from i l) ≡ before
unfolding all_allowed
allowed_none before l i h = rw (records-none (drop (2 * i) l) (rw length-drop (omega arith))) (and-true before)

-- Records in two parts are allowed if both parts are. No record lies across, since nothing follows a part of odd length.
pub allowed_parts : (a b : List ℕ) → (0 < length b → length a % 2 ≡ 0) → all_allowed (records_of (a ++ b)) ≡ (all_allowed (records_of a) && all_allowed (records_of b))
unfolding records_of all_allowed
allowed_parts [] b h = refl
allowed_parts (x ∷ []) [] h = refl
allowed_parts (x ∷ []) (y ∷ b) h = absurd (omega (arith, h (omega arith)))
allowed_parts (x ∷ v ∷ a) b h =
    let r : Record = record { operation = x; value = v } in
    ap (λ (rest : Bool). allowed r && rest) (allowed_parts a b (λ more. omega (arith, h more)))
    ∙ sym (and_assoc (allowed r) (all_allowed (records_of a)) (all_allowed (records_of b)))

-- no number above 5 names another operation
pub others-reset : (n : ℕ) → 6 ≤ n → operation_of n ≡ Reset
unfolding operation_of
others-reset (suc (suc (suc (suc (suc (suc zero)))))) h = refl
others-reset (suc (suc (suc (suc (suc (suc (suc n))))))) h = refl
others-reset zero h = absurd (omega arith)
others-reset (suc zero) h = absurd (omega arith)
others-reset (suc (suc zero)) h = absurd (omega arith)
others-reset (suc (suc (suc zero))) h = absurd (omega arith)
others-reset (suc (suc (suc (suc zero)))) h = absurd (omega arith)
others-reset (suc (suc (suc (suc (suc zero))))) h = absurd (omega arith)
