-- A stripe of eight columns, painted line by line.
use Prim.Native.Nat.{ℕ, ◌+◌, ◌*◌, ◌≤◌, ◌<◌}
use native.Mathlib.Decide.{dec_lt}
use native.Mathlib.Nat.{add_assoc}
use native.Mathlib.Omega.{arith}
use mathlib.Core.Path.{◌≡◌, ◌∙◌}
use mathlib.Core.List.{List}
use borrow.Author.Count.{below_more}
use lib.ListN.{length, get_or}
use Rattle.planes.specs.Painted.{Painted}

-- The first lines of a stripe: those are f's, and the columns before at are as they were on all eight.
pub record Begun (new old : List ℕ) (at lines : ℕ) (f : ℕ → ℕ → ℕ) : Type 0 where
  pub long : length new ≡ length old
  pub inside : (k j : ℕ) → k < lines → j < 8 → get_or new (256 * k + (at + j)) 0 ≡ f k j
  pub left : (k x : ℕ) → k < 8 → x < at → get_or new (256 * k + x) 0 ≡ get_or old (256 * k + x) 0

-- one line more
pub begun_more : {new now old : List ℕ} {at k : ℕ} {f : ℕ → ℕ → ℕ} {g : ℕ → ℕ} → k < 8 → at + 8 ≤ 256 → ((j : ℕ) → j < 8 → g j ≡ f k j) → Begun now old at k f → Painted new now (256 * k + at) 8 g → Begun new old at (k + 1) f
begun_more {new} {now} {old} {at} {k} {f} {g} h room same b p =
    record {
      long = p.long ∙ b.long;
      inside =
          λ n j hn hj.
          below_more (λ i. get_or new (256 * i + (at + j)) 0 ≡ f i j) k
          (λ i below. p.left _ (omega arith) ∙ b.inside i j below hj)
          (rw (← add_assoc (256 * k) at j) (p.inside j hj ∙ same j hj))
          n hn;
      left = λ n x hn hx. by n x hx (dec_lt k n) ∙ b.left n x hn hx;
    }
  where
    by : (n x : ℕ) → x < at → Dec (k < n) → get_or new (256 * n + x) 0 ≡ get_or now (256 * n + x) 0
    by n x hx (yes behind) = p.right _ (omega arith)
    by n x hx (no before) = p.left _ (omega arith)
