-- A test of every number below a bound.
use Prim.Native.Nat.{ℕ, zero, suc, ◌<◌}
use native.Mathlib.Nat.{not-suc-le-zero, le_of_suc-le-suc, eq-or-lt_of_le, le_step, lt-suc_self}
use mathlib.Core.Path.{◌≡◌, refl, ap, ap₂, sym, subst, ◌∙◌}
use mathlib.Core.Bool.{Bool, true, false, ◌&&◌, ◌||◌, or_assoc}
use mathlib.Core.Logic.{⊎_elim}
use Rattle.chip.specs.Ranges.{all_below, any_below}

pub and-false : (a : Bool) → (a && false) ≡ false
and-false true = refl
and-false false = refl

pub or-false : (a : Bool) → (a || false) ≡ a
or-false true = refl
or-false false = refl

pub or-true : (a : Bool) → (a || true) ≡ true
or-true true = refl
or-true false = refl

pub and_left : (a b : Bool) → (a && b) ≡ true → a ≡ true
and_left true b e = refl
and_left false b e = e

pub and_right : (a b : Bool) → (a && b) ≡ true → b ≡ true
and_right true b e = e
and_right false true e = refl
and_right false false e = e

pub and_both : {a b : Bool} → a ≡ true → b ≡ true → (a && b) ≡ true
and_both p q = ap₂ ◌&&◌ p q

-- one number at which the test fails is enough
pub one-fails : (n : ℕ) (p : ℕ → Bool) (k : ℕ) → k < n → p k ≡ false → all_below n p ≡ false
one-fails zero p k h e = absurd (not-suc-le-zero h)
one-fails (suc n) p k h e =
    ⊎_elim
    (λ same. ap (λ (b : Bool). all_below n p && b) (subst (λ (m : ℕ). p m ≡ false) same e) ∙ and-false (all_below n p))
    (λ below. ap (λ (b : Bool). b && p n) (one-fails n p k below e))
    (eq-or-lt_of_le (le_of_suc-le-suc h))

pub each_holds : (n : ℕ) (p : ℕ → Bool) → all_below n p ≡ true → (k : ℕ) → k < n → p k ≡ true
each_holds zero p e k h = absurd (not-suc-le-zero h)
each_holds (suc n) p e k h =
    ⊎_elim
    (λ same. subst (λ (m : ℕ). p m ≡ true) (sym same) (and_right (all_below n p) (p n) e))
    (λ below. each_holds n p (and_left (all_below n p) (p n) e) k below)
    (eq-or-lt_of_le (le_of_suc-le-suc h))

pub all_hold : (n : ℕ) (p : ℕ → Bool) → ((k : ℕ) → k < n → p k ≡ true) → all_below n p ≡ true
all_hold zero p h = refl
all_hold (suc n) p h = and_both (all_hold n p (λ k below. h k (le_step below))) (h n (lt-suc_self n))

-- one number at which the test holds is enough
pub one_holds : (n : ℕ) (p : ℕ → Bool) (k : ℕ) → k < n → p k ≡ true → any_below n p ≡ true
unfolding any_below
one_holds zero p k h e = absurd (not-suc-le-zero h)
one_holds (suc n) p k h e =
    ⊎_elim
    (λ same. ap (λ (b : Bool). any_below n p || b) (subst (λ (m : ℕ). p m ≡ true) same e) ∙ or-true (any_below n p))
    (λ below. ap (λ (b : Bool). b || p n) (one_holds n p k below e))
    (eq-or-lt_of_le (le_of_suc-le-suc h))

pub none-holds : (n : ℕ) (p : ℕ → Bool) → ((k : ℕ) → k < n → p k ≡ false) → any_below n p ≡ false
unfolding any_below
none-holds zero p h = refl
none-holds (suc n) p h = ap₂ ◌||◌ (none-holds n p (λ k below. h k (le_step below))) (h n (lt-suc_self n))

not-held : (b : Bool) → (b ≡ true → false ≡ true) → b ≡ false
not-held true h = sym (h refl)
not-held false h = refl

pub any-fails : (n : ℕ) (p : ℕ → Bool) → any_below n p ≡ false → (k : ℕ) → k < n → p k ≡ false
any-fails n p none k h = not-held (p k) (λ e. sym none ∙ one_holds n p k h e)

-- a test that is what holds at one of the numbers: it follows wherever that holds, and makes it hold somewhere
pub any-is : (n : ℕ) (p : ℕ → Bool) (b : Bool) → ((k : ℕ) → k < n → p k ≡ true → b ≡ true) → (b ≡ true → any_below n p ≡ true) → any_below n p ≡ b
any-is n p true f g = g refl
any-is n p false f g = none-holds n p (λ k h. not-held (p k) (f k h))

-- what follows wherever the test holds
pub any-gives : (n : ℕ) (p : ℕ → Bool) (b : Bool) → ((k : ℕ) → k < n → p k ≡ true → b ≡ true) → any_below n p ≡ true → b ≡ true
any-gives n p b f e = sym (any-is n p b f (λ _. e)) ∙ e

-- two tests that agree below the bound
pub any_same : (n : ℕ) (p q : ℕ → Bool) → ((k : ℕ) → k < n → p k ≡ q k) → any_below n p ≡ any_below n q
unfolding any_below
any_same zero p q h = refl
any_same (suc n) p q h = ap₂ ◌||◌ (any_same n p q (λ k below. h k (le_step below))) (h n (lt-suc_self n))

-- the first number apart from the others
pub any-first : (n : ℕ) (p : ℕ → Bool) → any_below (suc n) p ≡ (p 0 || any_below n (λ k. p (suc k)))
unfolding any_below
any-first zero p = sym (or-false (p 0))
any-first (suc n) p = ap (λ (b : Bool). b || p (suc n)) (any-first n p) ∙ or_assoc (p 0) (any_below n (λ k. p (suc k))) (p (suc n))

-- one test or another
pub any-or : (n : ℕ) (p q : ℕ → Bool) → any_below n (λ k. p k || q k) ≡ (any_below n p || any_below n q)
unfolding any_below
any-or zero p q = refl
any-or (suc n) p q = ap (λ (b : Bool). b || (p n || q n)) (any-or n p q) ∙ regroup (any_below n p) (any_below n q) (p n) (q n)
  where
    regroup : (a b c d : Bool) → (a || b || (c || d)) ≡ (a || c || (b || d))
    regroup true b c d = refl
    regroup false true true d = refl
    regroup false true false d = refl
    regroup false false true d = refl
    regroup false false false d = refl
