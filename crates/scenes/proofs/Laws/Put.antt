-- Bytes put in one by one.
use Prim.Native.Nat.{ℕ, suc, ◌+◌, ◌≤◌, ◌<◌}
use native.Mathlib.Nat.{add-zero, add-suc, suc-add}
use native.Mathlib.Numerals.{add-one}
use native.Mathlib.Omega.{arith}
use mathlib.Core.Path.{◌≡◌, refl, sym, ap, ap₂, ◌∙◌}
use mathlib.Core.List.{List, [], ◌∷◌, ◌++◌}
use lib.ListN.{length, get_or, take, set}
use lib.Seq.{sets, take-suc, take_all, length-take-le}
use Rattle.chip.specs.Lists.{tabulate}
use Rattle.chip.proofs.Laws.Lists.{length-tabulate, get_d_tabulate}
use Rattle.scenes.specs.Put.{put_from}

-- one byte more behind the others
sets-snoc : (vs l : List ℕ) (at a : ℕ) → sets l at (vs ++ (a ∷ [])) ≡ set (sets l at vs) (at + length vs) a
sets-snoc [] l at a = ap (λ (k : ℕ). set l k a) (sym (add-zero at))
sets-snoc (v ∷ vs) l at a =
    sets-snoc vs (set l at v) (suc at) a
    ∙ ap (λ (k : ℕ). set (sets (set l at v) (suc at) vs) k a) (suc-add at (length vs) ∙ sym (add-suc at (length vs)))

-- VRAM after the first i of the bytes.
pub record Put (vram : List ℕ) (at : ℕ) (bytes : List ℕ) (now : List ℕ) (i : ℕ) : Type 0 where
  pub so_far : now ≡ put_from vram at (take i bytes)

module _ {vram : List ℕ} {at : ℕ} {bytes : List ℕ} where
  pub put-none : Put vram at bytes vram 0
  unfolding put_from
  put-none = record { so_far = refl }

  pub put-more : {now next : List ℕ} {i : ℕ} {j x : ℕ} → i < length bytes → j ≡ at + i → x ≡ get_or bytes i 0 → next ≡ set now j x → Put vram at bytes now i → Put vram at bytes next (i + 1)
  unfolding put_from
  put-more {now} {next} {i} {j} {x} h p e store before =
      record {
        so_far =
            store
            ∙ ap (λ (k : ℕ). set now k x) p
            ∙ ap₂ (λ (l : List ℕ) (y : ℕ). set l (at + i) y) before.so_far e
            ∙ ap (λ (k : ℕ). set (sets vram at (take i bytes)) (at + k) (get_or bytes i 0)) (sym (length-take-le i bytes (omega arith)))
            ∙ sym (sets-snoc (take i bytes) vram at (get_or bytes i 0))
            ∙ ap (sets vram at) (sym (ap (λ (k : ℕ). take k bytes) (add-one i) ∙ take-suc bytes i 0 h));
      }

  pub put_all : {now : List ℕ} {i : ℕ} → length bytes ≤ i → Put vram at bytes now i → now ≡ put_from vram at bytes
  put_all {now} {i} h g = g.so_far ∙ ap (put_from vram at) (take_all i bytes h)

-- The same of n bytes that f tells.
module _ {vram : List ℕ} {at n : ℕ} (f : ℕ → ℕ) where
  pub told_more : {now next : List ℕ} {i j x : ℕ} → i < n → j ≡ at + i → x ≡ f i → next ≡ set now j x → Put vram at (tabulate n f) now i → Put vram at (tabulate n f) next (i + 1)
  told_more {now} {next} {i} h p e store before =
      put-more (omega (arith, length-tabulate n f)) p (e ∙ sym (get_d_tabulate n f i h)) store before

  pub told-all : {now : List ℕ} {i : ℕ} → n ≤ i → Put vram at (tabulate n f) now i → now ≡ put_from vram at (tabulate n f)
  told-all h g = put_all (omega (arith, length-tabulate n f)) g
