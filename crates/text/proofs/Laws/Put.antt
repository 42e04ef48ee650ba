-- Bytes put into a list one after another.
use Prim.Native.Nat.{ℕ, ◌+◌, ◌≤◌}
use native.Mathlib.Nat.{add_assoc}
use native.Mathlib.Omega.{arith}
use mathlib.Core.Path.{◌≡◌, sym, ap, ap₂, ◌∙◌}
use mathlib.Core.List.{List, ◌++◌, append_assoc}
use lib.ListN.{length, take, drop, length-append}
use lib.Seq.{length-take-le, take_at, drop_at, drop-drop}
use Rattle.chip.specs.Lists.{put_at}

pub put-put : (i : ℕ) (a b l : List ℕ) → i ≤ length l → put_at (i + length a) b (put_at i a l) ≡ put_at i (a ++ b) l
put-put i a b l h =
    let n : ℕ = i + length a in
    let t : List ℕ = take i l in
    let p : List ℕ = t ++ a in
    let q : List ℕ = drop n l in
    let hp : length p ≡ n = length-append t a ∙ ap (λ (k : ℕ). k + length a) (length-take-le i l h) in
    let ends : n + length b ≡ i + length (a ++ b) = add_assoc i (length a) (length b) ∙ ap (λ (k : ℕ). i + k) (sym (length-append a b)) in
    let behind : drop (n + length b) (p ++ q) ≡ drop (i + length (a ++ b)) l =
    sym (drop-drop (length b) n (p ++ q)) ∙ ap (drop (length b)) (drop_at p q n hp) ∙ drop-drop (length b) n l ∙ ap (λ (k : ℕ). drop k l) ends in
    ap (put_at n b) (sym (append_assoc t a q))
    ∙ ap₂ (λ (u v : List ℕ). u ++ (b ++ v)) (take_at p q n hp) behind
    ∙ append_assoc t a (b ++ drop (i + length (a ++ b)) l)
    ∙ ap (λ (u : List ℕ). t ++ u) (sym (append_assoc a b (drop (i + length (a ++ b)) l)))

-- Text that is put in from place i on ends before place e.
abbrev pub Put : List ℕ → ℕ → List ℕ → ℕ → List ℕ → Type 0
Put l₀ i text e l = (e ≡ i + length text) × (l ≡ put_at i text l₀)

-- one text after another
pub after : (l₀ : List ℕ) (i : ℕ) (a b : List ℕ) {j k : ℕ} {l₁ l₂ : List ℕ} → i ≤ length l₀ → Put l₀ i a j l₁ → Put l₁ j b k l₂ → Put l₀ i (a ++ b) k l₂
after l₀ i a b {j} {k} {l₁} {l₂} h p q = (
  q.0 ∙ ap (λ (m : ℕ). m + length b) p.0 ∙ add_assoc i (length a) (length b) ∙ ap (λ (m : ℕ). i + m) (sym (length-append a b)),
  q.1 ∙ ap₂ (λ (m : ℕ) (l : List ℕ). put_at m b l) p.0 p.1 ∙ put-put i a b l₀ h,
)

-- a list has at least the bytes that were put in at its front
pub put-fits : (bytes l : List ℕ) {l' : List ℕ} → l' ≡ put_at 0 bytes l → length bytes ≤ length l'
put-fits bytes l e = omega (arith, ap length e ∙ length-append bytes (drop (0 + length bytes) l))
