-- The bytes of words that bit operations make.
use Prim.Native.Nat.{ℕ, zero, suc, ◌+◌, ◌*◌, ◌/◌, ◌%◌, ◌^◌, ◌<◌}
use native.Mathlib.Nat.{mod-lt, mod-eq_of_lt, div-add-mod', zero-lt-suc}
use native.Mathlib.Omega.{arith}
use mathlib.Core.Path.{◌≡◌, refl, ap, ap₂, ◌∙◌}
use mathlib.Core.Bool.{Bool, true, false, cond}
use lib.Arith.{bin_ind}
use lib.Pow.{pow_pos}
use lib.Bits.{bit_and, bit_or, bit_xor, differ, xor_step, and_zero_r, xor_zero_r, and_mask, xor_lt, and_shr, or_shr, xor_shr, and_mod, or_mod, xor_mod}
use Rattle.words.specs.Words.{byte_of, Blended}

pub byte_small : (k w : ℕ) → byte_of k w < 2 ^ 8
unfolding byte_of
byte_small k w = mod-lt (w / 2 ^ (8 * k)) (pow_pos 8)

byte-and : (k a b : ℕ) → byte_of k (bit_and a b) ≡ bit_and (byte_of k a) (byte_of k b)
unfolding byte_of
byte-and k a b = ap (λ (x : ℕ). x % 2 ^ 8) (and_shr a b (8 * k)) ∙ and_mod (a / 2 ^ (8 * k)) (b / 2 ^ (8 * k)) 8

byte-xor : (k a b : ℕ) → byte_of k (bit_xor a b) ≡ bit_xor (byte_of k a) (byte_of k b)
unfolding byte_of
byte-xor k a b = ap (λ (x : ℕ). x % 2 ^ 8) (xor_shr a b (8 * k)) ∙ xor_mod (a / 2 ^ (8 * k)) (b / 2 ^ (8 * k)) 8

pub byte_or : (k a b : ℕ) → byte_of k (bit_or a b) ≡ bit_or (byte_of k a) (byte_of k b)
unfolding byte_of
byte_or k a b = ap (λ (x : ℕ). x % 2 ^ 8) (or_shr a b (8 * k)) ∙ or_mod (a / 2 ^ (8 * k)) (b / 2 ^ (8 * k)) 8

-- what is put in by xor twice is out again
xor-twice : (a b : ℕ) → bit_xor a (bit_xor a b) ≡ b
xor-twice =
    bin_ind (λ (n : ℕ). (b : ℕ) → bit_xor n (bit_xor n b) ≡ b) (λ b. refl)
    (λ n ih b.
    xor_step n (bit_xor n b)
    ∙ ap₂ (λ (x y : ℕ). bit_xor (n / 2) x * 2 + differ (n % 2) y) (xor_shr n b 1) (xor_mod n b 1)
    ∙ ap₂ (λ (x y : ℕ). x * 2 + y) (ih (b / 2)) (digit (n % 2) (b % 2) (mod-lt n (zero-lt-suc 1)) (mod-lt b (zero-lt-suc 1)))
    ∙ div-add-mod' b 2)
  where
    digit : (x y : ℕ) → x < 2 → y < 2 → differ x (bit_xor x y) ≡ y
    digit zero y hx hy = refl
    digit (suc zero) zero hx hy = refl
    digit (suc zero) (suc zero) hx hy = refl
    digit (suc zero) (suc (suc y)) hx hy = absurd (omega arith)
    digit (suc (suc x)) y hx hy = absurd (omega arith)

chosen : (b : Bool) (set clear : ℕ) → set < 2 ^ 8 → clear < 2 ^ 8 → bit_xor clear (bit_and (bit_xor clear set) (cond b 255 0)) ≡ cond b set clear
chosen true set clear hs hc =
    ap (bit_xor clear) (and_mask (bit_xor clear set) 8 ∙ mod-eq_of_lt (xor_lt 8 clear set hc hs)) ∙ xor-twice clear set
chosen false set clear hs hc = ap (bit_xor clear) (and_zero_r (bit_xor clear set)) ∙ xor_zero_r clear

pub blended : (mask set clear : ℕ) → Blended mask set clear (bit_xor clear (bit_and (bit_xor clear set) mask))
blended mask set clear k h b e =
    byte-xor k clear (bit_and (bit_xor clear set) mask)
    ∙ ap (bit_xor (byte_of k clear)) (byte-and k (bit_xor clear set) mask ∙ ap₂ bit_and (byte-xor k clear set) e)
    ∙ chosen b (byte_of k set) (byte_of k clear) (byte_small k set) (byte_small k clear)
