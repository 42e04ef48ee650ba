-- The file as it is read, and the output for it. Of what VRAM held before only its length matters.
use Prim.Native.Nat.{ℕ, suc}
use mathlib.Core.Path.{◌≡◌, refl, sym, ap, ◌∙◌}
use mathlib.Core.Bool.{Bool, true, false, cond}
use mathlib.Core.List.{List}
use lib.ListN.{length, length-replicate}
use borrow.Author.Tests.{eq-eqb}
use Rattle.std.specs.Prelude.{Ok, Err}
use Rattle.chip.specs.State.{power_up_state, well_formed}
use Rattle.chip.specs.Ports.{cleared_vram}
use Rattle.chip.specs.Refusals.{Outcome, number_of, is_accepted, if_accepted, giving, vram_test}
use Rattle.chip.specs.declared.state.Chip.{Chip}
use Rattle.chip.specs.declared.refusal.Refusal.{Refusal}
use Rattle.chip.proofs.Laws.Refusals.{passed, is-accepted}
use Rattle.snapshot.specs.Tests.{vram_bytes, held_state}
use Rattle.snapshot.specs.Calls.{file_tests, read_refusal, read_snapshot, read_vram}
use Rattle.snapshot.proofs.Laws.Refusals.{accepted-readable}
use Rattle.snapshot.proofs.Laws.Parts.{length-vram}
use Rattle.text.specs.Lines.{refused_text}
use Rattle.text.specs.Output.{output_of}
use Rattle.text.specs.Pieces.{Step, steps_from}
use Rattle.text.proofs.Laws.Pieces.{wholly, last_step}

-- a call that gives a refusal ended its tests with it
module _ {A : Type 0} where
  pub refusal-given : (r : Outcome) (v : A) {n : Refusal} → giving r v ≡ Err n → r ≡ Err n
  refusal-given (Ok x) v e = cc
  refusal-given (Err m) v {n} e = let k : m ≡ n = cc in ap Err k

same-refusal : (vram file : List ℕ) → length vram ≡ 16384 → read_refusal vram file ≡ read_refusal cleared_vram file
same-refusal vram file full =
    passed (vram_test vram) (file_tests file) (eq-eqb (length vram) 16384 full)
    ∙ sym (passed (vram_test cleared_vram) (file_tests file) (eq-eqb (length cleared_vram) 16384 (length-replicate {A = ℕ} 16384 0)))

-- a file that is accepted is shown by the state and VRAM that it holds, and for another the line of the refusal is written
module _ (shown : Chip → List ℕ → List ℕ) (vram file : List ℕ) (full : length vram ≡ 16384) where
  output-shown : read_refusal vram file ≡ Ok tt → output_of shown file ≡ shown (held_state file) (vram_bytes file)
  unfolding output_of
  output-shown e =
      ap (λ (q : Outcome). if_accepted q (shown (if_accepted q (held_state file) power_up_state) (if_accepted q (vram_bytes file) cleared_vram)) (refused_text (number_of q)))
      (sym (same-refusal vram file full) ∙ e)

  output-refused : is_accepted (read_refusal vram file) ≡ false → output_of shown file ≡ refused_text (number_of (read_refusal vram file))
  unfolding output_of
  output-refused e =
      ap (λ (b : Bool). cond b (shown (read_snapshot power_up_state cleared_vram file).chip (read_vram cleared_vram file)) (refused_text (number_of (read_refusal cleared_vram file))))
      (sym (ap is_accepted (same-refusal vram file full)) ∙ e)
      ∙ ap (λ (q : Outcome). refused_text (number_of q)) (sym (same-refusal vram file full))

-- A program that reads the file and then steps, up to n + 1 times, writes the output, if it does so from each state and VRAM
-- that a file can hold, and if its first step after a refusal writes its line and is the last.
module _ {W : Type 0} (step : List ℕ → W → Step W) (start : Outcome → Chip → W) (shown : Chip → List ℕ → List ℕ) (n : ℕ)
    (shows : (vram : List ℕ) → length vram ≡ 16384 → (c : Chip) → well_formed c ≡ true → steps_from (step vram) (suc n) (start (Ok tt) c) ≡ wholly (shown c vram))
    (refused : (vram : List ℕ) (r : Outcome) (c : Chip) → is_accepted r ≡ false → step vram (start r c) ≡ record { bytes = refused_text (number_of r); walk = start r c; last = true }) where
  pub from-file : (file vram : List ℕ) → length vram ≡ 16384 → steps_from (step (read_vram vram file)) (suc n) (start (read_refusal vram file) (read_snapshot power_up_state vram file).chip) ≡ wholly (output_of shown file)
  from-file file vram full = by (is_accepted (read_refusal vram file)) refl
    where
      by : (b : Bool) → is_accepted (read_refusal vram file) ≡ b → steps_from (step (read_vram vram file)) (suc n) (start (read_refusal vram file) (read_snapshot power_up_state vram file).chip) ≡ wholly (output_of shown file)
      by true e =
          let held : Chip = held_state file in
          let ok : read_refusal vram file ≡ Ok tt = is-accepted (read_refusal vram file) e in
          let r = accepted-readable vram file ok in
          ap (λ (q : Outcome). steps_from (step (if_accepted q (vram_bytes file) vram)) (suc n) (start q (if_accepted q held power_up_state))) ok
          ∙ shows (vram_bytes file) (length-vram file r.whole) held r.holds
          ∙ ap wholly (sym (output-shown shown vram file full ok))
      by false e =
          let c : Chip = (read_snapshot power_up_state vram file).chip in
          last_step (step (read_vram vram file)) n (start (read_refusal vram file) c) (refused (read_vram vram file) (read_refusal vram file) c e) refl
          ∙ ap wholly (sym (output-refused shown vram file full e))
