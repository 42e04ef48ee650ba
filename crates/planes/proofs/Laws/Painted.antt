-- A run of pixels, painted one by one.
use Prim.Native.Nat.{ℕ, ◌+◌, ◌-◌, ◌≤◌, ◌<◌}
use native.Mathlib.Decide.{dec_lt}
use Rattle.chip.specs.Lists.{tabulate}
use Rattle.chip.proofs.Laws.Lists.{tabulated}
use native.Mathlib.Omega.{arith}
use mathlib.Core.Path.{◌≡◌, ◌∙◌}
use mathlib.Core.List.{List}
use lib.ListN.{length, get_or}
use Rattle.planes.specs.Painted.{Painted}

-- What holds of each column before at, and of each of a run from there, holds of each before the run's end.
pub run_more : (P : ℕ → Type 0) (at width : ℕ) → ((x : ℕ) → x < at → P x) → ((k : ℕ) → k < width → P (at + k)) → (x : ℕ) → x < at + width → P x
run_more P at width before run x h = by (dec_lt x at)
  where
    by : Dec (x < at) → P x
    by (yes below) = before x below
    by (no above) =
        let k : ℕ = x - at in
        let e : at + k ≡ x = omega arith in
        rw e at (run k (omega arith))

-- A line of 256 of which the columns before at are settled, and the others still show what stands behind.
pub record Shown (line : List ℕ) (colour : ℕ → ℕ) (behind at : ℕ) : Type 0 where
  pub long : length line ≡ 256
  pub done : (x : ℕ) → x < at → get_or line x 0 ≡ colour x
  pub rest : (x : ℕ) → at ≤ x → x < 256 → get_or line x 0 ≡ behind

-- the next run
pub shown-more : {new line : List ℕ} {colour f : ℕ → ℕ} {behind at width : ℕ} → ((k : ℕ) → k < width → f k ≡ colour (at + k)) → Shown line colour behind at → Painted new line at width f → Shown new colour behind (at + width)
shown-more {new} {line} {colour} {f} {behind} {at} {width} same s p =
    record {
      long = p.long ∙ s.long;
      done = run_more (λ x. get_or new x 0 ≡ colour x) at width (λ x below. p.left x below ∙ s.done x below) (λ k h. p.inside k h ∙ same k h);
      rest = λ x h below. p.right x h ∙ s.rest x (omega arith) below;
    }

-- all runs
pub shown-all : {line : List ℕ} {colour : ℕ → ℕ} {behind at : ℕ} → ((x : ℕ) → at ≤ x → behind ≡ colour x) → Shown line colour behind at → line ≡ tabulate 256 colour
shown-all {line} {colour} {behind} {at} same s = tabulated s.long (λ x h. by x h (dec_lt x at))
  where
    by : (x : ℕ) → x < 256 → Dec (x < at) → get_or line x 0 ≡ colour x
    by x h (yes below) = s.done x below
    by x h (no above) = s.rest x (omega arith) h ∙ same x (omega arith)
