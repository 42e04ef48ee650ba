-- Colours painted one by one.
use Prim.Native.Nat.{ℕ, ◌+◌, ◌-◌, ◌*◌, ◌≤◌, ◌<◌}
use native.Mathlib.Numerals.{add-one}
use native.Mathlib.Omega.{arith}
use mathlib.Core.Path.{◌≡◌, refl, sym, ap, ap₂, ◌∙◌}
use mathlib.Core.List.{List, [], ◌∷◌, ◌++◌, append_assoc, append-nil}
use lib.ListN.{length, get_or, take, drop, length-append, length-drop}
use borrow.Rule.Slice.PartMut.{put_mid, Post-is}
use lib.Seq.{take-suc, take_all, take_at, drop_at, drop-drop, length-take-le}
use Rattle.chip.specs.Lists.{put_at}
use Rattle.ppm.specs.Palette.{rgb_of}
use Rattle.ppm.specs.Picture.{painted}

pub painted-append : (a b : List ℕ) → painted (a ++ b) ≡ painted a ++ painted b
unfolding painted
painted-append [] b = refl
painted-append (c ∷ a) b = ap (λ (t : List ℕ). rgb_of c ++ t) (painted-append a b) ∙ sym (append_assoc (rgb_of c) (painted a) (painted b))

painted-one-more : (l : List ℕ) (c : ℕ) → painted (l ++ (c ∷ [])) ≡ painted l ++ rgb_of c
unfolding painted
painted-one-more l c = painted-append l (c ∷ []) ∙ ap (λ (t : List ℕ). painted l ++ t) (append-nil (rgb_of c))

pub length-painted : (l : List ℕ) → length (painted l) ≡ 3 * length l
unfolding painted
length-painted [] = refl
length-painted (c ∷ l) = let h = length-painted l in omega arith

-- The first x colours are painted, and what follows is as it was.
pub record Painting (colours out₀ out : List ℕ) (x : ℕ) : Type 0 where
  pub so_far : out ≡ painted (take x colours) ++ drop (3 * x) out₀

pub painting-none : {colours out : List ℕ} → Painting colours out out 0
unfolding painted
painting-none = record { so_far = refl }

module _ {colours out₀ : List ℕ} (room : 3 * length colours ≤ length out₀) where
  pub painting-long : {out : List ℕ} {x : ℕ} → x ≤ length colours → Painting colours out₀ out x → length out ≡ length out₀
  painting-long {out} {x} h g =
      let whole = ap length g.so_far ∙ length-append (painted (take x colours)) (drop (3 * x) out₀) in
      let front = length-painted (take x colours) in
      let count = length-take-le x colours h in
      let back = length-drop (3 * x) out₀ in
      omega arith

  pub painting-more : {out pixel : List ℕ} {x : ℕ} → x < length colours → pixel ≡ rgb_of (get_or colours x 0) → Painting colours out₀ out x → Painting colours out₀ (put_mid (3 * x) (3 * x + 3 - 3 * x) out pixel) (x + 1)
  painting-more {out} {pixel} {x} h e g =
      let c = get_or colours x 0 in
      let p = painted (take x colours) in
      let front : length p ≡ 3 * x = length-painted (take x colours) ∙ ap (λ (k : ℕ). 3 * k) (length-take-le x colours (omega arith)) in
      let long = painting-long (omega arith) g in
      let kept : take (3 * x) out ≡ p = ap (take (3 * x)) g.so_far ∙ take_at p (drop (3 * x) out₀) (3 * x) front in
      let rest : drop (3 * x) out ≡ drop (3 * x) out₀ = ap (drop (3 * x)) g.so_far ∙ drop_at p (drop (3 * x) out₀) (3 * x) front in
      let on : 3 * x + 3 ≡ 3 * (x + 1) = omega arith in
      let next : drop (3 * x + 3) out ≡ drop (3 * (x + 1)) out₀ =
      sym (drop-drop 3 (3 * x) out) ∙ ap (drop 3) rest ∙ drop-drop 3 (3 * x) out₀ ∙ ap (λ (k : ℕ). drop k out₀) on in
      let more : painted (take (x + 1) colours) ≡ p ++ rgb_of c =
      ap painted (ap (λ (k : ℕ). take k colours) (add-one x) ∙ take-suc colours x 0 h) ∙ painted-one-more (take x colours) c in
      record {
        so_far =
            ap₂ (λ (q t : List ℕ). take (3 * x) out ++ (q ++ t)) e (Post-is (3 * x) (3 * x + 3) out (omega arith))
            ∙ sym (append_assoc (take (3 * x) out) (rgb_of c) (drop (3 * x + 3) out))
            ∙ ap₂ (λ (s t : List ℕ). s ++ rgb_of c ++ t) kept next
            ∙ ap (λ (s : List ℕ). s ++ drop (3 * (x + 1)) out₀) (sym more);
      }

  pub painting-all : {out : List ℕ} {x : ℕ} → x ≡ length colours → Painting colours out₀ out x → out ≡ put_at 0 (painted colours) out₀
  painting-all {out} {x} h g =
      let end = length-painted colours in
      let at : 3 * x ≡ 0 + length (painted colours) = omega arith in
      g.so_far ∙ ap₂ (λ (s : List ℕ) (k : ℕ). painted s ++ drop k out₀) (take_all x colours (omega arith)) at

-- the first, one more, and all
pub ruleset painting = (painting-none, painting-more, painting-all)
