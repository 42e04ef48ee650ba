-- What depends on one byte alone, by a test of each byte.
use Prim.Native.Nat.{ℕ, ◌+◌, ◌-◌, ◌*◌, ◌%◌, ◌^◌, ◌<◌}
use mathlib.Core.Path.{refl, ap, ◌∙◌}
use mathlib.Core.Bool.{Bool, cond}
use borrow.Author.Tests.{eqb-true}
use lib.Bits.{bit_or}
use lib.Dec.{eqb}
use Rattle.chip.specs.Bits.{bit}
use Rattle.chip.specs.Ranges.{all_below}
use Rattle.chip.proofs.Laws.Ranges.{each_holds}
use Rattle.words.specs.Words.{byte_of, Repeated, IsMask}
use Rattle.words.proofs.Laws.Bytes.{byte_or}

abbrev repeats : ℕ → ℕ → Bool
repeats b k = eqb (byte_of k (b * 72340172838076673)) b

pub repeated-right : (b : ℕ) → b < 256 → Repeated b (b * 72340172838076673)
unfolding byte_of
repeated-right b h k below =
    eqb-true (byte_of k (b * 72340172838076673)) b
    (each_holds 8 (repeats b) (each_holds 256 (λ b. all_below 8 (repeats b)) refl b h) k below)

abbrev shown : ℕ → ℕ → ℕ
shown p k = cond (bit (7 - k) p) 255 0

pub mask-none : IsMask 0 0
unfolding byte_of
mask-none k below = eqb-true (byte_of k 0) (shown 0 k) (each_holds 8 (λ k. eqb (byte_of k 0) (shown 0 k)) refl k below)

-- the word that has 255 where bit b of a pattern shows, and 0 elsewhere
abbrev pub shown_at : ℕ → ℕ
shown_at b = 255 * 2 ^ (8 * (7 - b)) % 2 ^ 64

-- whether that word is what the mask of a pattern has more once bit b is put above the pattern
abbrev adds : ℕ → ℕ → ℕ → Bool
adds b p k = eqb (bit_or (shown p k) (byte_of k (shown_at b))) (shown (2 ^ b + p) k)

abbrev adds_all : ℕ → Bool
adds_all b = all_below (2 ^ b) (λ p. all_below 8 (adds b p))

pub mask-added : (b p w : ℕ) → b < 8 → p < 2 ^ b → IsMask p w → IsMask (2 ^ b + p) (bit_or w (shown_at b))
unfolding byte_of
mask-added b p w hb hp m k below =
    byte_or k w (shown_at b) ∙ ap (λ (x : ℕ). bit_or x (byte_of k (shown_at b))) (m k below)
    ∙ eqb-true (bit_or (shown p k) (byte_of k (shown_at b))) (shown (2 ^ b + p) k)
    (each_holds 8 (adds b p) (each_holds (2 ^ b) (λ p. all_below 8 (adds b p)) (each_holds 8 adds_all refl b hb) p hp) k below)
