-- The loop over a line's chunks: what is left to write, put in behind what is written, gives the line's runs.
use Prim.Native.Nat.{ℕ, ◌+◌, ◌*◌, ◌≤◌, ◌<◌}
use native.Mathlib.Nat.{add-zero}
use native.Mathlib.Omega.{arith}
use mathlib.Core.Path.{◌≡◌, sym, ap, ap₂, ◌∙◌}
use mathlib.Core.List.{List, [], ◌∷◌, ◌++◌}
use lib.Dec.{eqb}
use lib.ListN.{length, get_or, take, drop, length-append}
use Rattle.std.specs.List.{IsChunkByPrefix}
use Rattle.std.proofs.lemmas.List.{take-append-drop}
use Rattle.chip.specs.Lists.{put_at}
use Rattle.text.specs.Runs.{runs}
use Rattle.text.specs.Lines.{run_text, runs_text}
use Rattle.text.proofs.Laws.Put.{Put, put-put}
use Rattle.text.proofs.Laws.Numbers.{length_run}
use Rattle.text.proofs.Laws.Runs.{chunk-first}

abbrev pub text_of : List ℕ → List ℕ
text_of line = runs_text (runs eqb line)

pub record Going (out₀ : List ℕ) (at : ℕ) (line out : List ℕ) (end : ℕ) (rest : List ℕ) : Type 0 where
  pub low : length rest ≤ 256
  pub kept : length out ≡ length out₀
  pub short : end + 6 * length rest ≤ at + 1536
  pub behind : end + length (text_of rest) ≡ at + length (text_of line)
  pub holds : put_at end (text_of rest) out ≡ put_at at (text_of line) out₀

module _ (out₀ : List ℕ) (at : ℕ) (line : List ℕ) (room : at + 1600 ≤ length out₀) {out : List ℕ} {end : ℕ} {rest : List ℕ} (g : Going out₀ at line out end rest) where
  pub going_on : (x t : List ℕ) → rest ≡ x ++ t → 0 < length x → IsChunkByPrefix eqb rest (length x)
      → {end' : ℕ} {out' : List ℕ} → Put out end (run_text (length x) (get_or x 0 0)) end' out' → length out' ≡ length out
      → Going out₀ at line out' end' t
  unfolding runs_text
  going_on x t parts some chunk {end'} {out'} p same =
      let text : List ℕ = run_text (length x) (get_or x 0 0) in
      let more : List ℕ = text_of t in
      let e : text_of rest ≡ text ++ more = ap text_of parts ∙ ap runs_text (chunk-first x t some (rw parts at chunk)) in
      let n = ap length parts ∙ length-append x t in
      let l = g.low in
      let h = g.short in
      let k = g.kept in
      let s = length_run (length x) (get_or x 0 0) some in
      let q = p.0 in
      record {
        low = omega arith;
        kept = same ∙ g.kept;
        short = omega arith;
        behind = omega (arith, length-append text more, ap length e, g.behind);
        holds = ap₂ (λ (n : ℕ) (l : List ℕ). put_at n more l) p.0 p.1 ∙ put-put end text more out (omega arith) ∙ ap (λ (t : List ℕ). put_at end t out) (sym e) ∙ g.holds;
      }

  pub going_end : length rest ≡ 0 → Put out₀ at (text_of line) end out
  unfolding runs runs_text
  going_end none = by rest none g.behind g.holds
    where
      by : (l : List ℕ) → length l ≡ 0 → end + length (text_of l) ≡ at + length (text_of line) → put_at end (text_of l) out ≡ put_at at (text_of line) out₀ → Put out₀ at (text_of line) end out
      by [] none behind holds = (sym (add-zero end) ∙ behind, sym (take-append-drop end out) ∙ ap (λ (n : ℕ). take end out ++ drop n out) (sym (add-zero end)) ∙ holds)
      by (x ∷ l) none behind holds = absurd (omega arith)
