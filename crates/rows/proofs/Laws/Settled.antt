-- Eight lines end to end that are settled from the left, stripe by stripe.
use Prim.Native.Nat.{ℕ, ◌+◌, ◌*◌, ◌/◌, ◌%◌, ◌≤◌, ◌<◌}
use native.Mathlib.Nat.{not-suc-le-zero}
use native.Mathlib.Omega.{arith}
use mathlib.Core.Path.{◌≡◌, ◌∙◌}
use mathlib.Core.List.{List}
use lib.ListN.{length, get_or}
use Rattle.chip.specs.Lists.{tabulate}
use Rattle.chip.proofs.Laws.Lists.{tabulated}
use Rattle.planes.proofs.Laws.Painted.{run_more}
use Rattle.rows.specs.Stripes.{Striped}

-- The columns before at have their colour on each of the eight lines.
pub record Settled (part : List ℕ) (colour : ℕ → ℕ → ℕ) (at : ℕ) : Type 0 where
  pub long : length part ≡ 2048
  pub done : (k x : ℕ) → k < 8 → x < at → get_or part (256 * k + x) 0 ≡ colour k x

pub settled-none : {part : List ℕ} {colour : ℕ → ℕ → ℕ} → length part ≡ 2048 → Settled part colour 0
settled-none e = record { long = e; done = λ k x h below. absurd (not-suc-le-zero below) }

-- One stripe more, of which the first columns count.
pub settled-more : {new old : List ℕ} {colour f : ℕ → ℕ → ℕ} {at : ℕ} (width : ℕ) → width ≤ 8 → ((k j : ℕ) → k < 8 → j < width → f k j ≡ colour k (at + j)) → Settled old colour at → Striped new old at f → Settled new colour (at + width)
settled-more {new} {old} {colour} {f} {at} width narrow same s p =
    record {
      long = p.long ∙ s.long;
      done =
          λ k x h.
          run_more (λ y. get_or new (256 * k + y) 0 ≡ colour k y) at width
          (λ y before. p.left k y h before ∙ s.done k y h before)
          (λ j below. p.inside k j h (omega arith) ∙ same k j h below)
          x;
    }

-- all columns
pub settled-all : {part : List ℕ} {colour : ℕ → ℕ → ℕ} → Settled part colour 256 → part ≡ tabulate 2048 (λ i. colour (i / 256) (i % 256))
settled-all {part} {colour} s = tabulated s.long (λ i h. by i h)
  where
    by : (i : ℕ) → i < 2048 → get_or part i 0 ≡ colour (i / 256) (i % 256)
    by i h =
        let e : 256 * (i / 256) + i % 256 ≡ i = omega arith in
        rw e at (s.done (i / 256) (i % 256) (omega arith) (omega arith))
