-- Words as the bytes that std writes and reads.
use Prim.Native.Nat.{ℕ, zero, suc, ◌+◌, ◌*◌, ◌/◌, ◌%◌, ◌^◌, ◌≤◌, ◌<◌}
use native.Mathlib.Nat.{div-one, pow-suc, not-suc-le-zero, le_of_suc-le-suc, add-zero}
use native.Mathlib.Omega.{arith}
use mathlib.Core.Path.{◌≡◌, refl, sym, ap, ◌∙◌}
use mathlib.Core.List.{List, ◌++◌}
use lib.ListN.{length, get_or, take, drop}
use lib.Pow.{pow-add}
use Rattle.std.specs.Int.{w64, byte_at, bytes_low_first, to_le_bytes, from_le_bytes}
use Rattle.std.proofs.lemmas.Nat.{le_bytes_8}
use Rattle.std.proofs.lemmas.List.{get_or-take, get_or-drop}
use Rattle.std.proofs.lemmas.Grind.{common_steps}
use Rattle.planes.specs.Painted.{Painted}
use Rattle.words.specs.Words.{byte_of}

-- a line with n bytes copied in from at on
copied-painted : (line bytes : List ℕ) (at n : ℕ) → length bytes ≡ n → at + n ≤ length line → Painted (take at line ++ (bytes ++ drop n (drop at line))) line at n (λ k. get_or bytes k 0)
copied-painted line bytes at n e h =
    record {
      long = grind (arith, common_steps);
      inside = λ k below. grind (arith, common_steps);
      left = λ x below. grind (arith, common_steps);
      right = λ x above. grind (arith, common_steps);
    }

-- n bytes read from at on
length-read : (line : List ℕ) (at n : ℕ) → at + n ≤ length line → length (take n (drop at line)) ≡ n
length-read line at n h = grind (arith, common_steps)

fits-read : (line : List ℕ) (at n : ℕ) → ((i : ℕ) → get_or line i 0 < 256) → (i : ℕ) → get_or (take n (drop at line)) i 0 < 256
fits-read line at n small i = grind (arith, common_steps)

powers : (i : ℕ) → 256 ^ i ≡ 2 ^ (8 * i)
powers zero = refl
powers (suc i) =
    let e : 8 * i + 8 ≡ 8 * suc i = omega arith in
    pow-suc 256 i ∙ ap (λ (x : ℕ). x * 256) (powers i) ∙ sym (pow-add 2 (8 * i) 8) ∙ ap (λ (x : ℕ). 2 ^ x) e

same_byte : (i w : ℕ) → byte_at i w ≡ byte_of i w
unfolding byte_of
same_byte zero w = sym (ap (λ (x : ℕ). x % 2 ^ 8) (div-one w))
same_byte (suc i) w = ap (λ (x : ℕ). w / x % 256) (powers (suc i))

low-first : (i n k w : ℕ) → k < n → get_or (bytes_low_first i n w) k 0 ≡ byte_of (i + k) w
low-first i zero k w h = absurd (not-suc-le-zero h)
low-first i (suc n) zero w h = rw add-zero (same_byte i w)
low-first i (suc n) (suc k) w h =
    let e : suc i + k ≡ i + suc k = omega arith in
    low-first (suc i) n k w (le_of_suc-le-suc h) ∙ ap (λ (j : ℕ). byte_of j w) e

-- the bytes that std takes a word apart into
byte-written : (k w : ℕ) → k < 8 → get_or (to_le_bytes w64 w) k 0 ≡ byte_of k w
byte-written k w h = low-first 0 8 k w h ∙ ap (λ (j : ℕ). byte_of j w) (omega arith)

-- a line that a word is stored in
pub stored-painted : (line : List ℕ) (at w : ℕ) → at + 8 ≤ length line → Painted (take at line ++ (to_le_bytes w64 w ++ drop 8 (drop at line))) line at 8 (λ k. byte_of k w)
stored-painted line at w h =
    let p = copied-painted line (to_le_bytes w64 w) at 8 refl h in
    record { long = p.long; inside = λ k below. p.inside k below ∙ byte-written k w below; left = p.left; right = p.right }

-- a word that is read from a line
pub loaded : (line : List ℕ) (at w : ℕ) → at + 8 ≤ length line → ((i : ℕ) → get_or line i 0 < 256) → w ≡ from_le_bytes w64 (take 8 (drop at line)) → (k : ℕ) → k < 8 → byte_of k w ≡ get_or line (at + k) 0
loaded line at w h small e k below =
    let same = le_bytes_8 (take 8 (drop at line)) w (length-read line at 8 h) (fits-read line at 8 small) e in
    sym (byte-written k w below) ∙ ap (λ (l : List ℕ). get_or l k 0) same ∙ get_or-take 8 (drop at line) k 0 below ∙ get_or-drop at line k 0
