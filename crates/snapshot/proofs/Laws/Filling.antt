-- A list that is filled part by part from the front.
use Rattle.std.proofs.Common.{◌≡◌, ℕ, ◌+◌, List, [], ◌++◌, length, take, drop, sym, refl, ap, ◌∙◌, append_assoc, arith, length-append, take_all, take_at}
use Rattle.chip.specs.Lists.{put_at}
use Rattle.chip.specs.TwoBytes.{low_first}
use Rattle.chip.specs.Layout.{encoded}
use Rattle.chip.specs.declared.state.Chip.{Chip}
use Rattle.chip.proofs.Laws.Layout.{length-encoded}
use Rattle.snapshot.proofs.Laws.Parts.{regroup, before-trailer, before-sum}
use Rattle.snapshot.specs.Format.{pointers, checksum, summed, snapshot_of}

-- Bytes that are put in right behind a front of the list make the front longer.
pub put_front : (at : ℕ) (bytes l p : List ℕ) {n : ℕ} → take at l ≡ p → length p ≡ at → length bytes ≡ n → take (at + n) (put_at at bytes l) ≡ p ++ bytes
put_front at bytes l p {n} front hp hb =
    ap (λ (q : List ℕ). take (at + n) (q ++ (bytes ++ drop (at + length bytes) l))) front
    ∙ ap (take (at + n)) (sym (append_assoc p bytes (drop (at + length bytes) l)))
    ∙ take_at (p ++ bytes) (drop (at + length bytes) l) (at + n) (rw (length-append, hp, hb))

-- The four parts of a snapshot, put in one after another, are the snapshot.
module _ (c : Chip) (eight : length c.registers ≡ 8) (vram : List ℕ) (long : length vram ≡ 16384) where
  pub filled : (l₀ : List ℕ) {l₁ l₂ l₃ l₄ : List ℕ} {x : ℕ} → l₁ ≡ put_at 0 vram l₀ → l₂ ≡ put_at 16384 (encoded c) l₁ → l₃ ≡ put_at 16398 pointers l₂ → x ≡ checksum (take 16404 l₃) → l₄ ≡ put_at 16404 (low_first x) l₃ → length l₄ ≡ 16406 → l₄ ≡ snapshot_of c vram
  unfolding snapshot_of
  filled l₀ {l₁} {l₂} {l₃} {l₄} {x} e₁ e₂ e₃ ex e₄ whole =
      let h₂ = before-trailer c eight vram long in
      let h₃ = before-sum c eight vram long in
      let f₁ : take 16384 l₁ ≡ vram = rw e₁ (put_front 0 vram l₀ [] refl refl long) in
      let f₂ : take 16398 l₂ ≡ vram ++ encoded c = rw e₂ (put_front 16384 (encoded c) l₁ vram f₁ long (length-encoded c eight)) in
      let f₃ : take 16404 l₃ ≡ (vram ++ encoded c) ++ pointers = rw e₃ (put_front 16398 pointers l₂ (vram ++ encoded c) f₂ h₂ refl) in
      let f₄ : take 16406 l₄ ≡ ((vram ++ encoded c) ++ pointers) ++ low_first x = rw e₄ (put_front 16404 (low_first x) l₃ ((vram ++ encoded c) ++ pointers) f₃ h₃ refl) in
      let total : x ≡ checksum (summed c vram) = ex ∙ ap checksum (f₃ ∙ append_assoc vram (encoded c) pointers) in
      sym (take_all 16406 l₄ (omega arith))
      ∙ f₄
      ∙ regroup vram (encoded c) pointers (low_first x)
      ∙ ap (λ (n : ℕ). vram ++ (encoded c ++ (pointers ++ low_first n))) total
