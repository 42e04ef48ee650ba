-- An input that is accepted: the state and VRAM that the run leaves, and what both streams get.
use Prim.Native.Nat.{ℕ, ◌+◌, ◌≤◌}
use native.Mathlib.Omega.{arith}
use mathlib.Core.Path.{◌≡◌, sym, ap, ap₂, ◌∙◌}
use mathlib.Core.Bool.{true}
use mathlib.Core.List.{List, ◌++◌, append-nil}
use lib.ListN.{length, length-replicate, drop_of_length-le}
use Rattle.std.specs.Prelude.{Ok}
use Rattle.chip.specs.Lists.{put_at}
use Rattle.chip.specs.State.{Bytes, well_formed, power_up_state}
use Rattle.chip.specs.Map.{map_size}
use Rattle.chip.specs.Ports.{cleared_vram}
use Rattle.chip.proofs.Laws.Lists.{bytes_take}
use Rattle.chip.proofs.Laws.Ready.{Ready}
use Rattle.chip.proofs.Laws.Refusals.{the-new, the-value}
use Rattle.scanline.specs.Calls.{line_size}
use Rattle.snapshot.specs.Format.{snapshot_of}
use Rattle.snapshot.specs.Tests.{vram_bytes, held_state}
use Rattle.snapshot.specs.Calls.{write_refusal, written}
use Rattle.snapshot.proofs.Laws.Bytes.{bytes-part}
use Rattle.snapshot.proofs.Laws.Held.{ready_held, bytes-held}
use Rattle.snapshot.proofs.Laws.Parts.{length-vram}
use Rattle.snapshot.proofs.Laws.Refusals.{Readable, accepted-readable, write-accepted}
use Rattle.snapshot.proofs.Laws.Written.{length-snapshot}
use Rattle.port_log.specs.Format.{log_trailer_at, record_bytes}
use Rattle.port_log.specs.Records.{records_of}
use Rattle.port_log.specs.Single.{target}
use Rattle.port_log.specs.Run.{End, end_of}
use Rattle.port_log.specs.declared.running.Reached.{Reached}
use Rattle.port_log.specs.declared.running.Ran.{Ran}
use Rattle.port_log.proofs.Laws.Sound.{Sound, values-bytes, run_sound}
use Rattle.replay.specs.Streams.{snapshot_part, log_part, start_state, start_vram, clear_list, ran, vram_after, refusal_of_run, reached, replay_refusal, replayed, written_of, snapshot_refusal, report_of, after_run}
use Rattle.replay.proofs.Laws.Refused.{neither-refused, streams-accepted}

-- bytes put in place of as many
put_whole : (b l : List ℕ) → length b ≡ length l → put_at 0 b l ≡ b
put_whole b l e = let over : length l ≤ 0 + length b = omega arith in ap (λ (t : List ℕ). b ++ t) (drop_of_length-le l over) ∙ append-nil b

-- where the run of this input ends, if it is not refused
abbrev pub end_for : List ℕ → End
end_for input = end_of (start_state input) (start_vram input) (clear_list map_size) (clear_list line_size) (log_part input)

-- what a snapshot that is accepted leaves to the run
module _ (input : List ℕ) (ok : snapshot_refusal input ≡ Ok tt) where
  part-readable : Readable cleared_vram (snapshot_part input)
  part-readable = accepted-readable cleared_vram (snapshot_part input) ok

  start-state : start_state input ≡ held_state (snapshot_part input)
  start-state = the-new ok (held_state (snapshot_part input)) power_up_state

  start-vram : start_vram input ≡ vram_bytes (snapshot_part input)
  start-vram = the-new ok (vram_bytes (snapshot_part input)) cleared_vram

  pub start-formed : well_formed (start_state input) ≡ true
  start-formed = ap well_formed start-state ∙ part-readable.holds

  pub start-full : length (start_vram input) ≡ 16384
  start-full = ap length start-vram ∙ length-vram (snapshot_part input) part-readable.whole

  start-sound : Bytes input → Sound (target (start_state input) (start_vram input) (clear_list map_size) (clear_list line_size))
  start-sound bytes =
      let part : Bytes (snapshot_part input) = bytes_take 16406 input bytes in
      record {
        ready = rw start-state (ready_held (snapshot_part input) part part-readable.whole part-readable.holds);
        bytes = rw start-vram (bytes-held (snapshot_part input) part);
        vram = start-full;
        map = length-replicate {A = ℕ} 2048 0;
        line = length-replicate {A = ℕ} 256 0;
      }

module _ (input : List ℕ) (bytes : Bytes input) (accepted : replay_refusal input ≡ Ok tt) where
  run-accepted : refusal_of_run input ≡ Ok tt
  run-accepted = (neither-refused input accepted).1

  chip-end : (ran input).chip ≡ (end_for input).target.chip
  chip-end = the-new run-accepted (end_for input).target.chip (start_state input)

  pub vram-end : vram_after input ≡ (end_for input).target.vram
  vram-end = the-new run-accepted (end_for input).target.vram (start_vram input)

  end-sound : Sound (end_for input).target
  unfolding record_bytes
  end-sound =
      run_sound 0 (records_of (record_bytes (log_part input))) (start-sound input (neither-refused input accepted).0 bytes)
      (values-bytes (record_bytes (log_part input)) (bytes-part 16406 (log_trailer_at (log_part input)) input bytes))

  -- what the run leaves can be written
  pub ready-after : Ready (ran input).chip
  ready-after = rw chip-end end-sound.ready

  pub bytes_after : Bytes (vram_after input)
  bytes_after = rw vram-end end-sound.bytes

  pub full-after : length (vram_after input) ≡ 16384
  full-after = ap length vram-end ∙ end-sound.vram

  pub length-after : length (snapshot_of (ran input).chip (vram_after input)) ≡ 16406
  length-after = length-snapshot (ran input).chip ready-after.fits.eight (vram_after input) full-after

  pub accepted-writes : (output errors : List ℕ) → length output ≡ 16406
      → {r : Ran} {q : Reached} → r ≡ ran input → r.result ≡ Ok q → {vram : List ℕ} → vram ≡ vram_after input
      → {n : ℕ} → n ≡ length (report_of q)
      → {output' errors' : List ℕ} → output' ≡ written r.chip vram output → errors' ≡ put_at 0 (report_of q) errors
      → record { value : record { output = 16406; errors = n } ≡ written_of (replayed input); output_after : output' ≡ put_at 0 (replayed input).output output; errors_after : errors' ≡ put_at 0 (replayed input).errors errors }
  accepted-writes output errors room {r} {q} run got kept counts is line =
      let writes : write_refusal (ran input).chip (vram_after input) output ≡ Ok tt = write-accepted (ran input).chip (vram_after input) output full-after room ready-after.well-formed in
      let file : written (ran input).chip (vram_after input) output ≡ (after_run input).output = the-new writes (after_run input).output output in
      let same : Ok q ≡ Ok (reached input) = sym got ∙ ap (λ (x : Ran). x.result) run ∙ the-value run-accepted (reached input) in
      let far : q ≡ reached input = cc in
      rw (streams-accepted input accepted)
      (record {
        value = ap₂ (λ (m k : ℕ). record { output = m; errors = k }) (sym length-after) (counts ∙ ap (λ (x : Reached). length (report_of x)) far);
        output_after = is ∙ (λ i. written (run i).chip (kept i) output) ∙ file ∙ sym (put_whole (after_run input).output output (length-after ∙ sym room));
        errors_after = line ∙ ap (λ (x : Reached). put_at 0 (report_of x) errors) far;
      })
