-- A log that is filled part by part from the front.
use Prim.Native.Nat.{ℕ, ◌+◌}
use native.Mathlib.Omega.{arith}
use mathlib.Core.Path.{◌≡◌, refl, sym, ap, ◌∙◌}
use mathlib.Core.List.{List, [], ◌++◌, append_assoc}
use lib.ListN.{length, take, length-append}
use lib.Seq.{take_all}
use Rattle.chip.specs.Lists.{put_at}
use Rattle.chip.specs.TwoBytes.{low_first}
use Rattle.snapshot.specs.Format.{checksum}
use Rattle.snapshot.proofs.Laws.Filling.{put_front}
use Rattle.port_log.specs.Format.{log_of}

-- The records, the distance and the sum, put in one after another, are the log.
module _ (records : List ℕ) where
  abbrev n : ℕ
  n = length records

  pub filled : (l₀ : List ℕ) {l₁ l₂ l₃ : List ℕ} {t f x : ℕ} → t ≡ 0 + n → l₁ ≡ put_at 0 records l₀ → f ≡ t + 2 → l₂ ≡ put_at t (low_first t) l₁ → x ≡ checksum records → l₃ ≡ put_at f (low_first x) l₂ → length l₃ ≡ n + 4 → l₃ ≡ log_of records
  unfolding log_of
  filled l₀ {l₁} {l₂} {l₃} {t} {f} {x} et₀ e₁ ef e₂ ex e₃ whole =
      let none : 0 + n ≡ n = omega arith in
      let et : t ≡ n = et₀ ∙ none in
      let f₀ : take (0 + n) l₁ ≡ records = rw e₁ (put_front 0 records l₀ [] refl refl refl) in
      let f₁ : take n l₁ ≡ records = rw none at f₀ in
      let f₂ : take (n + 2) l₂ ≡ records ++ low_first n = rw (e₂, et) (put_front n (low_first n) l₁ records f₁ refl refl) in
      let f₃ : take (n + 2 + 2) l₃ ≡ (records ++ low_first n) ++ low_first x = rw (e₃, ef, et) (put_front (n + 2) (low_first x) l₂ (records ++ low_first n) f₂ (length-append records (low_first n)) refl) in
      sym (take_all (n + 2 + 2) l₃ (omega arith))
      ∙ f₃
      ∙ append_assoc records (low_first n) (low_first x)
      ∙ ap (λ (s : ℕ). records ++ (low_first n ++ low_first s)) ex
