-- What `replay` writes on standard output is the snapshot after the run.
use Prim.Native.Nat.{ℕ}
use mathlib.Core.Path.{◌≡◌, refl, sym, ap, subst, ◌∙◌}
use mathlib.Core.List.{List}
use lib.ListN.{length, length-replicate}
use Rattle.std.specs.Prelude.{Ok}
use Rattle.chip.specs.State.{Bytes, power_up_state}
use Rattle.chip.specs.Ports.{cleared_vram}
use Rattle.chip.specs.Refusals.{number_of}
use Rattle.chip.specs.declared.state.Chip.{Chip}
use Rattle.chip.proofs.Laws.Refusals.{the-new, value-given}
use Rattle.snapshot.specs.Format.{snapshot_of}
use Rattle.snapshot.specs.Calls.{read_refusal, read_snapshot, read_vram, write_refusal, as_stored, written}
use Rattle.snapshot.proofs.RoundTrips.{written_read}
use Rattle.text.specs.Lines.{refused_text}
use Rattle.text.specs.Show.{show_text}
use Rattle.text.specs.Output.{output_of, show_output}
use Rattle.replay.specs.Streams.{Streams, ran, vram_after, replay_refusal, replayed}
use Rattle.replay.proofs.Laws.Refused.{streams-accepted}
use Rattle.replay.proofs.Laws.Accepted.{ready-after, bytes_after, full-after, length-after}

module _ (input : List ℕ) (bytes : Bytes input) (accepted : replay_refusal input ≡ Ok tt) where
  -- Take any input of bytes that is accepted, and let the reader have any state and any VRAM of its own. Then the output consists
  -- of bytes, reading it is accepted, and reading gives VRAM after the run, and the state after it but for the redraw mark and the
  -- count of lost first bytes, as reading leaves them.
  pub output-read : (other : Chip) (old : List ℕ) → length old ≡ 16384
      → let file = (replayed input).output in
      Bytes file
      × ((read_snapshot other old file).result ≡ Ok 0)
      × (read_vram old file ≡ vram_after input)
      × ((read_snapshot other old file).chip ≡ as_stored (ran input).chip)
  output-read other old full =
      let c : Chip = (ran input).chip in
      let vram : List ℕ = vram_after input in
      let file : List ℕ = snapshot_of c vram in
      let ready = ready-after input bytes accepted in
      let t = written_read c ready.fits ready.well-formed vram (bytes_after input bytes accepted) (full-after input bytes accepted) file (length-after input bytes accepted) other old full in
      let is : written c vram file ≡ (replayed input).output = the-new (value-given (write_refusal c vram file) 0 t.0) file file ∙ sym (ap (λ (s : Streams). s.output) (streams-accepted input accepted)) in
      subst
      (λ (f : List ℕ). Bytes f × ((read_snapshot other old f).result ≡ Ok 0) × (read_vram old f ≡ vram) × ((read_snapshot other old f).chip ≡ as_stored c))
      is
      (t.1, t.2, t.3, t.4)

  -- So a program that reads the output and shows it, in a way that depends neither on the redraw mark nor on the count, shows state
  -- and VRAM after the run ..
  pub output-shown : (shown : Chip → List ℕ → List ℕ) → ((c : Chip) (vram : List ℕ) → shown (as_stored c) vram ≡ shown c vram)
      → output_of shown (replayed input).output ≡ shown (ran input).chip (vram_after input)
  unfolding output_of
  output-shown shown same =
      let file : List ℕ = (replayed input).output in
      let t = output-read power_up_state cleared_vram (length-replicate {A = ℕ} 16384 0) in
      let c : Chip = (read_snapshot power_up_state cleared_vram file).chip in
      let vram : List ℕ = vram_after input in
      the-new (value-given (read_refusal cleared_vram file) 0 t.1) (shown c (read_vram cleared_vram file)) (refused_text (number_of (read_refusal cleared_vram file)))
      ∙ ap (shown c) t.2
      ∙ ap (λ (d : Chip). shown d vram) t.3
      ∙ same (ran input).chip vram

  -- .. as `show` does.
  pub replay-then-show : show_output (replayed input).output ≡ show_text (ran input).chip (vram_after input)
  unfolding show_text
  replay-then-show = output-shown show_text (λ c vram. refl)
