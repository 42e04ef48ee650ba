-- Lines of 256 bytes, end to end: over any line function.
use Prim.Native.Nat.{ℕ, zero, suc, ◌+◌, ◌*◌, ◌≤◌, ◌<◌}
use native.Mathlib.Nat.{le_step, lt-suc_self, mul-suc}
use native.Mathlib.Numerals.{add-one}
use native.Mathlib.Omega.{arith}
use mathlib.Core.Path.{◌≡◌, refl, sym, ap, ap₂, ◌∙◌}
use mathlib.Core.Bool.{Bool, true, false, cond}
use mathlib.Core.List.{List, ◌++◌, append_assoc}
use lib.ListN.{length, take, drop, length-append, length-drop}
use lib.Seq.{take_at, drop_at, drop-drop, length-take-le}
use mir.Val.{bool_byte}
use Rattle.redraw.specs.Lines.{lines_end_to_end, line_at, count_below}

module _ (f : ℕ → List ℕ) where
  pub length-end : (n : ℕ) → ((k : ℕ) → k < n → length (f k) ≡ 256) → length (lines_end_to_end n f) ≡ 256 * n
  unfolding lines_end_to_end
  length-end zero h = refl
  length-end (suc n) h =
      length-append (lines_end_to_end n f) (f n) ∙ ap₂ ◌+◌ (length-end n (λ k below. h k (le_step below))) (h n (lt-suc_self n)) ∙ sym (mul-suc 256 n)

  end_more : (n : ℕ) → lines_end_to_end (n + 1) f ≡ lines_end_to_end n f ++ f n
  unfolding lines_end_to_end
  end_more n = rw add-one refl

-- the same lines, end to end
pub end_same : (n : ℕ) (f g : ℕ → List ℕ) → ((k : ℕ) → k < n → f k ≡ g k) → lines_end_to_end n f ≡ lines_end_to_end n g
unfolding lines_end_to_end
end_same zero f g h = refl
end_same (suc n) f g h = ap₂ ◌++◌ (end_same n f g (λ k below. h k (le_step below))) (h n (lt-suc_self n))

pub length-line : (frame : List ℕ) (l : ℕ) → 256 * l + 256 ≤ length frame → length (line_at frame l) ≡ 256
length-line frame l h = length-take-le 256 (drop (256 * l) frame) (rw length-drop (omega arith))

-- a line is 256 bytes long, due or not
pub either-long : (b : Bool) (x y : List ℕ) → length x ≡ 256 → length y ≡ 256 → length (cond b x y) ≡ 256
either-long true x y ex ey = ex
either-long false x y ex ey = ey

-- A frame of which the first l lines are f's, and the rest is as it was.
module _ (f : ℕ → List ℕ) (old frame : List ℕ) (l : ℕ) (long : length (lines_end_to_end l f) ≡ 256 * l) (so : frame ≡ lines_end_to_end l f ++ drop (256 * l) old) where
  -- line l is still the old one
  pub old-line : line_at frame l ≡ line_at old l
  old-line = ap (λ (t : List ℕ). take 256 (drop (256 * l) t)) so ∙ ap (take 256) (drop_at (lines_end_to_end l f) (drop (256 * l) old) (256 * l) long)

  -- line l stored
  pub line-stored : (line : List ℕ) → line ≡ f l → take (256 * l) frame ++ (line ++ drop 256 (drop (256 * l) frame)) ≡ lines_end_to_end (l + 1) f ++ drop (256 * (l + 1)) old
  line-stored line e =
      let front : take (256 * l) frame ≡ lines_end_to_end l f = ap (take (256 * l)) so ∙ take_at (lines_end_to_end l f) (drop (256 * l) old) (256 * l) long in
      let rest : drop (256 * l) frame ≡ drop (256 * l) old = ap (drop (256 * l)) so ∙ drop_at (lines_end_to_end l f) (drop (256 * l) old) (256 * l) long in
      let place : 256 * l + 256 ≡ 256 * (l + 1) = omega arith in
      let beyond : drop 256 (drop (256 * l) frame) ≡ drop (256 * (l + 1)) old = ap (drop 256) rest ∙ drop-drop 256 (256 * l) old ∙ ap (λ (n : ℕ). drop n old) place in
      ap₂ ◌++◌ front (ap₂ ◌++◌ e beyond)
      ∙ sym (append_assoc (lines_end_to_end l f) (f l) (drop (256 * (l + 1)) old))
      ∙ ap (λ (t : List ℕ). t ++ drop (256 * (l + 1)) old) (sym (end_more f l))

pub count-more : (n : ℕ) (p : ℕ → Bool) → count_below (n + 1) p ≡ count_below n p + bool_byte (p n)
unfolding count_below
count-more n p = rw add-one refl

pub bit-small : (b : Bool) → bool_byte b ≤ 1
bit-small true = omega arith
bit-small false = omega arith

pub count-le : (n : ℕ) (p : ℕ → Bool) → count_below n p ≤ n
unfolding count_below
count-le zero p = omega arith
count-le (suc n) p = let below = count-le n p in let one = bit-small (p n) in omega arith
