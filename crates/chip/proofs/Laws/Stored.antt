-- A list with a part stored in it, which is what a part of a `&mut` slice leaves when it comes back from a call.
use Prim.Native.Nat.{ℕ, ◌+◌, ◌-◌, ◌≤◌, ◌<◌}
use native.Mathlib.Omega.{arith}
use mathlib.Core.Path.{◌≡◌, ap, ◌∙◌}
use mathlib.Core.List.{List, ◌++◌}
use lib.ListN.{length, get_or, take, drop, length-append, length-drop, get_or-append}
use lib.Seq.{length-take-le, get_or-take, get_or-drop, get_or-append-add}

-- the part of n elements is stored at a, in the place of w
module _ (l part : List ℕ) (a n w : ℕ) (long : length part ≡ n) (room : a + n ≤ length l) (ew : w ≡ n) where
  abbrev stored : List ℕ
  stored = take a l ++ (part ++ drop w (drop a l))

  front : length (take a l) ≡ a
  front = length-take-le a l (omega arith)

  pub stored-long : length stored ≡ length l
  stored-long =
      let whole = length-append (take a l) (part ++ drop w (drop a l)) in
      let tail = length-append part (drop w (drop a l)) in
      let rest = length-drop w (drop a l) in
      let more = length-drop a l in
      omega (arith, front)

  pub stored-left : (i : ℕ) → i < a → get_or stored i 0 ≡ get_or l i 0
  stored-left i h = get_or-append (take a l) (part ++ drop w (drop a l)) 0 i (omega (arith, front)) ∙ get_or-take a l i 0 h

  behind : (i : ℕ) → a ≤ i → get_or stored i 0 ≡ get_or (part ++ drop w (drop a l)) (i - a) 0
  behind i h =
      let e : i ≡ length (take a l) + (i - a) = omega (arith, front) in
      ap (λ (v : ℕ). get_or stored v 0) e ∙ get_or-append-add (take a l) (part ++ drop w (drop a l)) (i - a) 0

  pub stored-inside : (k : ℕ) → k < n → get_or stored (a + k) 0 ≡ get_or part k 0
  stored-inside k h =
      let e : a + k - a ≡ k = omega arith in
      behind (a + k) (omega arith) ∙ ap (λ (v : ℕ). get_or (part ++ drop w (drop a l)) v 0) e ∙ get_or-append part (drop w (drop a l)) 0 k (omega arith)

  pub stored-right : (i : ℕ) → a + n ≤ i → get_or stored i 0 ≡ get_or l i 0
  stored-right i h =
      let e : i - a ≡ length part + (i - a - n) = omega (arith, long) in
      let back : a + (n + (i - a - n)) ≡ i = omega arith in
      behind i (omega arith)
      ∙ ap (λ (v : ℕ). get_or (part ++ drop w (drop a l)) v 0) e
      ∙ get_or-append-add part (drop w (drop a l)) (i - a - n) 0
      ∙ ap (λ (v : ℕ). get_or (drop v (drop a l)) (i - a - n) 0) ew
      ∙ get_or-drop n (drop a l) (i - a - n) 0
      ∙ get_or-drop a l (n + (i - a - n)) 0
      ∙ ap (λ (v : ℕ). get_or l v 0) back
