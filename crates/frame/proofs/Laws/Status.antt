-- One note stands for the notes of several lines: it has the first fifth sprite, and coincidence where some note has.
use Prim.Native.Nat.{ℕ, suc, ◌+◌, ◌*◌, ◌/◌, ◌%◌, ◌^◌, ◌≤◌, ◌<◌}
use native.Mathlib.Nat.{div-add-mod', mod-lt, mod-eq_of_lt}
use native.Mathlib.Omega.{arith}
use mathlib.Core.Path.{◌≡◌, refl, sym, ap, ap₂, ◌∙◌}
use mathlib.Core.Bool.{Bool, true, false, cond, not, ◌&&◌, ◌||◌, or_assoc}
use mathlib.Core.List.{List, [], ◌∷◌}
use mathlib.Core.Logic.{◌⊎◌, ⊎_elim}
use borrow.Author.Tests.{ltb-true, ltb-false, lt-ltb, le-ltb, eq-eqb, ne_eqb, eqb-true, eqb-false}
use lib.Bits.{differ, bit_or, bit_xor, or_step, or_zero_r, or_block, xor_step, xor_shr, xor_zero_r}
use lib.Dec.{ltb, eqb}
use lib.ListN.{length, get_or, drop}
use lib.Pow.{pow_pos}
use lib.Seq.{drop-cons}
use Rattle.chip.specs.Bits.{bit, set_bit}
use Rattle.chip.proofs.Laws.Bits.{bit-or}
use Rattle.scanline.specs.Notes.{latched, note_by, status_after, status_through}
use Rattle.frame.specs.Status.{has_fifth, some, first_fifth, Joined}

-- The notes joined.

-- bit 5 of a note is clear where it has a fifth sprite
pub fifth-told : (n : ℕ) → bit 5 (bit_xor n 32) ≡ has_fifth n
fifth-told n = ap (λ (m : ℕ). eqb (m % 2) 1) (xor_shr n 32 5) ∙ by (eqb (n / 32 % 2) 0) refl
  where
    by : (t : Bool) → eqb (n / 32 % 2) 0 ≡ t → eqb (bit_xor (n / 32) 1 % 2) 1 ≡ has_fifth n
    by true e =
        let even : n / 32 % 2 ≡ 0 = eqb-true (n / 32 % 2) 0 e in
        let one : bit_xor (n / 32) 1 % 2 ≡ 1 = omega (arith, xor_step (n / 32) 1, ap (λ (d : ℕ). differ d 1) even) in
        eq-eqb _ 1 one ∙ sym (lt-ltb (n % 64) 32 (omega arith))
    by false e =
        let odd : n / 32 % 2 ≡ 1 = omega (arith, eqb-false (n / 32 % 2) 0 e) in
        let none : bit_xor (n / 32) 1 % 2 ≡ 0 = omega (arith, xor_step (n / 32) 1, ap (λ (d : ℕ). differ d 1) odd) in
        ap (λ (d : ℕ). eqb d 1) none ∙ sym (le-ltb (n % 64) 32 (omega arith))

pub met-told : (n : ℕ) → bit 6 (bit_xor n 32) ≡ bit 6 n
met-told n = ap (λ (m : ℕ). eqb (m % 2) 1) (xor_shr n 32 6 ∙ xor_zero_r (n / 64))

-- a note moves from the notes to come to the joined ones
pub one-joined : (k : ℕ) (p : ℕ → Bool) → ((n : ℕ) → bit k (bit_xor n 32) ≡ p n) → (j : ℕ) (l : List ℕ) (i : ℕ) → i < length l → (bit k (bit_or j (bit_xor (get_or l i 0) 32)) || some p (drop (suc i) l)) ≡ (bit k j || some p (drop i l))
unfolding some
one-joined k p told j l i h =
    let n : ℕ = get_or l i 0 in
    let rest : Bool = some p (drop (suc i) l) in
    ap (λ (b : Bool). b || rest) (bit-or k j (bit_xor n 32) ∙ ap (λ (b : Bool). bit k j || b) (told n))
    ∙ or_assoc (bit k j) (p n) rest
    ∙ ap (λ (m : List ℕ). bit k j || some p m) (sym (drop-cons l i 0 h))

-- The first fifth sprite.

pub fifth-le : (l : List ℕ) → first_fifth l ≤ 32
unfolding first_fifth
fifth-le [] = omega arith
fifth-le (n ∷ l) = by (has_fifth n) refl (fifth-le l)
  where
    by : (t : Bool) → has_fifth n ≡ t → first_fifth l ≤ 32 → cond t (n % 64) (first_fifth l) ≤ 32
    by true e h = omega (arith, ltb-true (n % 64) 32 e)
    by false e h = h

no-fifth : (l : List ℕ) → some has_fifth l ≡ false → first_fifth l ≡ 32
unfolding first_fifth some
no-fifth [] e = refl
no-fifth (n ∷ l) e = by (has_fifth n) e (no-fifth l)
  where
    by : (t : Bool) → (t || some has_fifth l) ≡ false → (some has_fifth l ≡ false → first_fifth l ≡ 32) → cond t (n % 64) (first_fifth l) ≡ 32
    by true f rest = absurd (eqb-false 0 0 f refl)
    by false f rest = rest f

-- Bits 5 and 6 set, in numbers.
with-one : (y : ℕ) → bit_or y 1 ≡ y / 2 * 2 + 1
with-one y = omega (arith, or_step y 1, or_zero_r (y / 2))

set_is : (k x : ℕ) → set_bit k x ≡ (x / 2 ^ k / 2 * 2 + 1) * 2 ^ k + x % 2 ^ k
set_is k x =
    let low : x % 2 ^ k < 2 ^ k = mod-lt x (pow_pos k) in
    ap₂ bit_or (sym (div-add-mod' x (2 ^ k))) (omega arith)
    ∙ or_block k (x / 2 ^ k) 1 (x % 2 ^ k) 0 low (pow_pos k)
    ∙ ap₂ (λ (a b : ℕ). a * 2 ^ k + b) (with-one (x / 2 ^ k)) (or_zero_r (x % 2 ^ k))

set_twice : (s : ℕ) → set_bit 5 (set_bit 5 s) ≡ set_bit 5 s
set_twice s = omega (arith, set_is 5 s, set_is 5 (set_bit 5 s))

-- What a note does to status, by its fifth sprite's number, with 32 for none, and by whether it has coincidence.
abbrev numbered : ℕ → ℕ → ℕ
numbered s n = cond (ltb n 32) (latched s n) s

abbrev noted : ℕ → ℕ → Bool → ℕ
noted s n met = cond met (set_bit 5 (numbered s n)) (numbered s n)

-- whether a number can be latched
abbrev free : ℕ → Bool
free s = not (bit 6 s) && not (bit 7 s)

-- C has no part in it
free-met : (s : ℕ) → free (set_bit 5 s) ≡ free s
free-met s =
    ap₂
    (λ (a b : ℕ). not (eqb a 1) && not (eqb b 1))
    (let e : set_bit 5 s / 64 % 2 ≡ s / 64 % 2 = omega (arith, set_is 5 s) in e)
    (let e : set_bit 5 s / 128 % 2 ≡ s / 128 % 2 = omega (arith, set_is 5 s) in e)

latched-met : (s n : ℕ) → n < 32 → latched (set_bit 5 s) n ≡ set_bit 5 (latched s n)
latched-met s n h = ap (λ (t : Bool). cond t (set_bit 6 (set_bit 5 s / 32 * 32 + n)) (set_bit 5 s)) (free-met s) ∙ by (free s)
  where
    five : (x : ℕ) → set_bit 5 (x * 32 + n) ≡ (x / 2 * 2 + 1) * 32 + n
    five x = omega (arith, set_is 5 (x * 32 + n))

    six : (x : ℕ) → set_bit 6 (x * 32 + n) ≡ (x / 4 * 4 + 2 + x % 2) * 32 + n
    six x = omega (arith, set_is 6 (x * 32 + n))

    upper : set_bit 5 s / 32 ≡ s / 32 / 2 * 2 + 1
    upper = omega (arith, set_is 5 s)

    either_way : (x : ℕ) → (x / 2 * 2 + 1) / 4 * 4 + 2 + (x / 2 * 2 + 1) % 2 ≡ (x / 4 * 4 + 2 + x % 2) / 2 * 2 + 1
    either_way x = omega arith

    by : (t : Bool) → cond t (set_bit 6 (set_bit 5 s / 32 * 32 + n)) (set_bit 5 s) ≡ set_bit 5 (cond t (set_bit 6 (s / 32 * 32 + n)) s)
    by true =
        six (set_bit 5 s / 32)
        ∙ ap (λ (x : ℕ). (x / 4 * 4 + 2 + x % 2) * 32 + n) upper
        ∙ ap (λ (x : ℕ). x * 32 + n) (either_way (s / 32))
        ∙ sym (ap (set_bit 5) (six (s / 32)) ∙ five (s / 32 / 4 * 4 + 2 + s / 32 % 2))
    by false = refl

numbered-met : (s n : ℕ) → numbered (set_bit 5 s) n ≡ set_bit 5 (numbered s n)
numbered-met s n = by (ltb n 32) refl
  where
    by : (t : Bool) → ltb n 32 ≡ t → cond t (latched (set_bit 5 s) n) (set_bit 5 s) ≡ set_bit 5 (cond t (latched s n) s)
    by true e = latched-met s n (ltb-true n 32 e)
    by false e = refl

-- once a number is latched, no other is
not_free : (s n : ℕ) → free s ≡ false → latched s n ≡ s
not_free s n e = ap (λ (t : Bool). cond t (set_bit 6 (s / 32 * 32 + n)) s) e

latched-once : (s n k : ℕ) → latched (latched s n) k ≡ latched s n
latched-once s n k = by (free s) refl
  where
    on : (x : ℕ) → free (set_bit 6 x) ≡ false
    on x =
        ap
        (λ (b : Bool). not b && not (bit 7 (set_bit 6 x)))
        (eq-eqb (set_bit 6 x / 64 % 2) 1 (omega (arith, set_is 6 x)))

    by : (t : Bool) → free s ≡ t → latched (latched s n) k ≡ latched s n
    by true e =
        let x : ℕ = s / 32 * 32 + n in
        let is : latched s n ≡ set_bit 6 x = ap (λ (t : Bool). cond t (set_bit 6 x) s) e in
        ap (λ (t : ℕ). latched t k) is ∙ not_free (set_bit 6 x) k (on x) ∙ sym is
    by false e = ap (λ (t : ℕ). latched t k) (not_free s n e) ∙ not_free s k e ∙ sym (not_free s n e)

-- Two notes, and then all.
numbered-two : (s n m : ℕ) → numbered (numbered s n) m ≡ numbered s (cond (ltb n 32) n m)
numbered-two s n m = by (ltb n 32) refl
  where
    again : (t : Bool) → cond t (latched (latched s n) m) (latched s n) ≡ latched s n
    again true = latched-once s n m
    again false = refl

    by : (t : Bool) → ltb n 32 ≡ t → numbered (cond t (latched s n) s) m ≡ numbered s (cond t n m)
    by true e = again (ltb m 32) ∙ ap (λ (t : Bool). cond t (latched s n) s) (sym e)
    by false e = refl

two : (s n m : ℕ) (a b : Bool) → noted (noted s n a) m b ≡ noted s (cond (ltb n 32) n m) (a || b)
two s n m a b =
    ap (λ (t : ℕ). cond b (set_bit 5 t) t) (first (numbered s n) a)
    ∙ both (numbered (numbered s n) m) a b
    ∙ ap (λ (t : ℕ). cond (a || b) (set_bit 5 t) t) (numbered-two s n m)
  where
    first : (x : ℕ) (p : Bool) → numbered (cond p (set_bit 5 x) x) m ≡ cond p (set_bit 5 (numbered x m)) (numbered x m)
    first x true = numbered-met x m
    first x false = refl

    both : (x : ℕ) (p q : Bool) → cond q (set_bit 5 (cond p (set_bit 5 x) x)) (cond p (set_bit 5 x) x) ≡ cond (p || q) (set_bit 5 x) x
    both x true true = set_twice x
    both x true false = refl
    both x false q = refl

through : (s : ℕ) (l : List ℕ) → status_through s l ≡ noted s (first_fifth l) (some (bit 6) l)
unfolding status_through status_after first_fifth some
through s [] = refl
through s (n ∷ l) = through (status_after s n) l ∙ two s (n % 64) (first_fifth l) (bit 6 n) (some (bit 6) l)

-- One note made of the two.
one-note : (s n : ℕ) (met : Bool) → n ≤ 32 → status_after s (note_by n met) ≡ noted s n met
unfolding status_after
one-note s n true h =
    ap₂ (noted s) (let e : (n + 64) % 64 ≡ n = omega arith in e) (eq-eqb ((n + 64) / 64 % 2) 1 (omega arith))
one-note s n false h =
    ap₂ (noted s) (let e : (n + 0) % 64 ≡ n = omega arith in e) (ne_eqb ((n + 0) / 64 % 2) 1 (λ e. omega arith))

-- where a number is latched already, none is as good as any
already : (s n : ℕ) → 64 ≤ s → s < 256 → numbered s n ≡ s
already s n low high = by (ltb n 32)
  where
    taken : (p q : Bool) → bit 6 s ≡ p → bit 7 s ≡ q → (not p && not q) ≡ false
    taken true q ep eq = refl
    taken false true ep eq = refl
    taken false false ep eq =
        let seven : s / 128 % 2 ≡ s / 128 = mod-eq_of_lt (omega arith) in
        let under : s < 128 = omega (arith, eqb-false (s / 128 % 2) 1 eq) in
        let six : s / 64 % 2 ≡ s / 64 = mod-eq_of_lt (omega arith) in
        absurd (omega (arith, eqb-false (s / 64 % 2) 1 ep))

    by : (t : Bool) → cond t (latched s n) s ≡ s
    by true = not_free s n (taken (bit 6 s) (bit 7 s) refl refl)
    by false = refl

pub by-one-note : (l : List ℕ) (s n j : ℕ) → s < 256 → Joined l j → (((bit 5 j && ltb s 64) ≡ true) × (n ≡ first_fifth l)) ⊎ (((bit 5 j && ltb s 64) ≡ false) × (n ≡ 32)) → status_after s (n + j / 64 % 2 * 64) ≡ status_through s l
by-one-note l s n j small told is =
    ap (λ (m : ℕ). status_after s (n + m)) (flag (bit 6 j) refl)
    ∙ ap (λ (t : Bool). status_after s (note_by n t)) told.met
    ∙ ⊎_elim found none is
    ∙ sym (through s l)
  where
    flag : (t : Bool) → bit 6 j ≡ t → j / 64 % 2 * 64 ≡ cond t 64 0
    flag true e = omega (arith, eqb-true (j / 64 % 2) 1 e)
    flag false e = omega (arith, eqb-false (j / 64 % 2) 1 e)

    found : ((bit 5 j && ltb s 64) ≡ true) × (n ≡ first_fifth l) → status_after s (note_by n (some (bit 6) l)) ≡ noted s (first_fifth l) (some (bit 6) l)
    found w =
        one-note s n (some (bit 6) l) (omega (arith, fifth-le l, w.1))
        ∙ ap (λ (m : ℕ). noted s m (some (bit 6) l)) w.1

    same : (p q : Bool) → bit 5 j ≡ p → ltb s 64 ≡ q → (p && q) ≡ false → s ≡ numbered s (first_fifth l)
    same true true ep eq e = absurd (eqb-false 0 0 e refl)
    same true false ep eq e = sym (already s (first_fifth l) (ltb-false s 64 eq) small)
    same false q ep eq e = ap (numbered s) (sym (no-fifth l (sym told.fifth ∙ ep)))

    none : ((bit 5 j && ltb s 64) ≡ false) × (n ≡ 32) → status_after s (note_by n (some (bit 6) l)) ≡ noted s (first_fifth l) (some (bit 6) l)
    none w =
        ap (λ (m : ℕ). status_after s (note_by m (some (bit 6) l))) w.1
        ∙ one-note s 32 (some (bit 6) l) (omega arith)
        ∙ ap (λ (m : ℕ). cond (some (bit 6) l) (set_bit 5 m) m) (same (bit 5 j) (ltb s 64) refl refl w.0)
