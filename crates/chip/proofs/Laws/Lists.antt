-- Lists by their elements.
use Prim.Native.Nat.{ℕ, zero, suc, ◌+◌, ◌≤◌, ◌<◌, suc-le-suc}
use native.Mathlib.Nat.{not-suc-le-zero, le_of_suc-le-suc, ne_of_lt, zero-lt-suc}
use mathlib.Core.Path.{◌≡◌, refl, ap, ap₂, sym, ◌∙◌}
use mathlib.Core.List.{List, [], ◌∷◌}
use Rattle.chip.specs.Lists.{tabulate}
use Rattle.chip.specs.State.{Bytes}
use lib.Dec.{lit<}
use lib.ListN.{length, get_or, take, set, replicate}
use lib.Seq.{take_all, ext_get_or, get_or-set_same, get_or-set_other}
use borrow.Author.Count.{below_more}
use native.Mathlib.Omega.{arith}

pub take-tabulate : (n : ℕ) (l : List ℕ) → n ≤ length l → take n l ≡ tabulate n (λ i. get_or l i 0)
unfolding tabulate
take-tabulate zero l h = refl
take-tabulate (suc n) [] h = absurd (not-suc-le-zero h)
take-tabulate (suc n) (x ∷ xs) h = ap {B = List ℕ} (λ t. x ∷ t) (take-tabulate n xs (le_of_suc-le-suc h))

-- a list of n elements, element by element
pub listed : (n : ℕ) (l : List ℕ) → length l ≡ n → l ≡ tabulate n (λ i. get_or l i 0)
listed n l e = sym (take_all n l (omega arith)) ∙ take-tabulate n l (omega arith)

pub length-tabulate : (n : ℕ) (f : ℕ → ℕ) → length (tabulate n f) ≡ n
unfolding tabulate
length-tabulate zero f = refl
length-tabulate (suc n) f = ap suc (length-tabulate n (λ i. f (suc i)))

pub get_d_tabulate : (n : ℕ) (f : ℕ → ℕ) (i : ℕ) → i < n → get_or (tabulate n f) i 0 ≡ f i
unfolding tabulate
get_d_tabulate zero f i h = absurd (not-suc-le-zero h)
get_d_tabulate (suc n) f zero h = refl
get_d_tabulate (suc n) f (suc i) h = get_d_tabulate n (λ j. f (suc j)) i (le_of_suc-le-suc h)

-- two tables with the same entries
pub tabulate-same : (n : ℕ) {f g : ℕ → ℕ} → ((i : ℕ) → i < n → f i ≡ g i) → tabulate n f ≡ tabulate n g
unfolding tabulate
tabulate-same zero h = refl
tabulate-same (suc n) h = ap₂ (λ (x : ℕ) (l : List ℕ). x ∷ l) (h 0 (zero-lt-suc n)) (tabulate-same n (λ i below. h (suc i) (suc-le-suc below)))

-- a list of n elements that are f's
pub tabulated : {l : List ℕ} {n : ℕ} {f : ℕ → ℕ} → length l ≡ n → ((i : ℕ) → i < n → get_or l i 0 ≡ f i) → l ≡ tabulate n f
tabulated {l} {n} {f} e h =
    ext_get_or 0 l (tabulate n f) (e ∙ sym (length-tabulate n f)) (λ i below. h i (omega arith) ∙ sym (get_d_tabulate n f i (omega arith)))

-- A list that a loop fills from the front: its first i elements are f's.
pub record Filled (s : List ℕ) (f : ℕ → ℕ) (i : ℕ) : Type 0 where
  pub front : (k : ℕ) → k < i → get_or s k 0 ≡ f k

pub filled_none : {s : List ℕ} {f : ℕ → ℕ} → Filled s f 0
filled_none = record { front = λ k h. absurd (not-suc-le-zero h) }

-- one store more
pub filled_more : {s : List ℕ} {f : ℕ → ℕ} {i : ℕ} (x : ℕ) → i < length s → x ≡ f i → Filled s f i → Filled (set s i x) f (i + 1)
filled_more {s} {f} {i} x h e before =
    record {
      front =
          below_more (λ k. get_or (set s i x) k 0 ≡ f k) i
          (λ k below. get_or-set_other s i k x 0 (ne_of_lt below) ∙ before.front k below)
          (get_or-set_same s i x 0 h ∙ e);
    }

-- lists of bytes
pub bytes_take : (n : ℕ) (l : List ℕ) → Bytes l → Bytes (take n l)
bytes_take zero l b i = lit< tt
bytes_take (suc n) [] b i = lit< tt
bytes_take (suc n) (x ∷ l) b zero = b 0
bytes_take (suc n) (x ∷ l) b (suc i) = bytes_take n l (λ j. b (suc j)) i

pub bytes-zeros : (n : ℕ) → Bytes (replicate n 0)
bytes-zeros zero i = lit< tt
bytes-zeros (suc n) zero = lit< tt
bytes-zeros (suc n) (suc i) = bytes-zeros n i
