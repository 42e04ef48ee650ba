-- Redrawing line by line, over any new line, new note and due test.
use Prim.Native.Nat.{ℕ, ◌+◌, ◌*◌, ◌≤◌, ◌<◌}
use native.Mathlib.Omega.{arith}
use mathlib.Core.Path.{◌≡◌, refl, sym, ap₂, ◌∙◌}
use mathlib.Core.Bool.{Bool}
use mathlib.Core.List.{List, ◌++◌}
use lib.ListN.{length, get_or, take, drop, set, length-set}
use lib.Seq.{get_or-set_other}
use mir.Val.{bool_byte}
use Rattle.chip.proofs.Laws.Lists.{Filled, filled_none, filled_more}
use Rattle.redraw.specs.Lines.{lines_end_to_end, count_below}
use Rattle.redraw.proofs.Laws.Lines.{length-end, line-stored, count-more}

-- After l of n lines: they are the new ones, and so are their notes; the rest is as it was; and the due ones are counted.
pub record Redrawn (n : ℕ) (line : ℕ → List ℕ) (note : ℕ → ℕ) (is : ℕ → Bool) (frame₀ notes₀ frame notes : List ℕ) (count l : ℕ) : Type 0 where
  pub lines : frame ≡ lines_end_to_end l line ++ drop (256 * l) frame₀
  pub long : length notes ≡ n
  pub done : Filled notes note l
  pub rest : (k : ℕ) → l ≤ k → get_or notes k 0 ≡ get_or notes₀ k 0
  pub counted : count ≡ count_below l is

module _ (n : ℕ) (line : ℕ → List ℕ) (note : ℕ → ℕ) (is : ℕ → Bool) (wide : (k : ℕ) → k < n → length (line k) ≡ 256) where
  pub redrawn-none : {frame notes : List ℕ} → length notes ≡ n → Redrawn n line note is frame notes frame notes 0 0
  unfolding count_below lines_end_to_end
  redrawn-none e = record { lines = refl; long = e; done = filled_none; rest = λ k h. refl; counted = refl }

  module _ {frame₀ notes₀ frame notes : List ℕ} {count l : ℕ} (h : l < n) (g : Redrawn n line note is frame₀ notes₀ frame notes count l) where
    pub prefix-long : length (lines_end_to_end l line) ≡ 256 * l
    prefix-long = length-end line l (λ k below. wide k (omega arith))

    redrawn-more : (part : List ℕ) (v : ℕ) (b : Bool) → part ≡ line l → v ≡ note l → b ≡ is l → Redrawn n line note is frame₀ notes₀ (take (256 * l) frame ++ (part ++ drop 256 (drop (256 * l) frame))) (set notes l v) (count + bool_byte b) (l + 1)
    redrawn-more part v b ep en eb =
        record {
          lines = line-stored line frame₀ frame l prefix-long g.lines part ep;
          long = length-set notes l v ∙ g.long;
          done = filled_more v (omega (arith, g.long)) en g.done;
          rest = λ k above. get_or-set_other notes l k v 0 (omega arith) ∙ g.rest k (omega arith);
          counted = ap₂ (λ (a : ℕ) (x : Bool). a + bool_byte x) g.counted eb ∙ sym (count-more l is);
        }

  -- One line more, lent as a part of the frame of width w.
  module _ {frame₀ notes₀ frame notes : List ℕ} {count l : ℕ} (h : l < n) (e : length frame₀ ≡ 256 * n) (g : Redrawn n line note is frame₀ notes₀ frame notes count l) where
    pub redrawn-line : {part : List ℕ} {v : ℕ} {b : Bool} {w : ℕ} → w ≡ 256 → part ≡ line l → v ≡ note l → b ≡ is l → Redrawn n line note is frame₀ notes₀ (take (256 * l) frame ++ (part ++ drop w (drop (256 * l) frame))) (set notes l v) (count + bool_byte b) (l + 1)
    redrawn-line {part} {v} {b} ew ep en eb = rw ew (redrawn-more h g part v b ep en eb)
