-- When an input is refused, and what both streams get.
use Prim.Native.Nat.{ℕ, ◌<◌}
use native.Mathlib.Omega.{arith}
use mathlib.Core.Path.{◌≡◌, refl, sym, ap, ◌∙◌}
use mathlib.Core.Bool.{Bool, true, false, cond}
use mathlib.Core.List.{List}
use lib.ListN.{length, length-replicate}
use lib.Seq.{take_all}
use borrow.Author.Tests.{eq-eqb, ne_eqb}
use Rattle.std.specs.Prelude.{Ok, Err}
use Rattle.chip.specs.Lists.{put_at}
use Rattle.chip.specs.Ports.{cleared_vram}
use Rattle.chip.specs.Refusals.{Outcome, refusal_number, is_accepted, if_accepted}
use Rattle.chip.specs.declared.refusal.Refusal.{Refusal}
use Rattle.chip.specs.declared.refusal.Refusal.TheVariants.{SnapshotLength}
use Rattle.chip.proofs.Laws.Refusals.{is-accepted, differ, the-new}
use Rattle.snapshot.specs.Calls.{read_refusal}
use Rattle.text.specs.Lines.{refused_text}
use Rattle.replay.specs.Streams.{snapshot_part, refusal_of_run, snapshot_refusal, replay_refusal, after_run, after_refusal, replayed, written_of}
use Rattle.replay.specs.declared.streams.Written.{Written}

wrong-length : (vram s : List ℕ) → length vram ≡ 16384 → (length s ≡ 16406 → ⊥) → read_refusal vram s ≡ Err SnapshotLength
wrong-length vram s full other = rw (eq-eqb (length vram) 16384 full, ne_eqb (length s) 16406 other)

-- the first of two refusals, where there is one
both-accepted : (r s : Outcome) → if_accepted r s r ≡ Ok tt → (r ≡ Ok tt) × (s ≡ Ok tt)
both-accepted r s e = by (is_accepted r) refl e
  where
    by : (b : Bool) → is_accepted r ≡ b → cond b s r ≡ Ok tt → (r ≡ Ok tt) × (s ≡ Ok tt)
    by true t h = (is-accepted r t, h)
    by false t h = absurd (differ (sym (ap is_accepted h) ∙ t))

module _ (input : List ℕ) where
  -- the snapshot's refusal comes first ..
  pub by-snapshot : is_accepted (snapshot_refusal input) ≡ false → replay_refusal input ≡ snapshot_refusal input
  unfolding replay_refusal
  by-snapshot e = ap (λ (b : Bool). cond b (refusal_of_run input) (snapshot_refusal input)) e

  pub snapshot-refused : {r : Refusal} → snapshot_refusal input ≡ Err r → replay_refusal input ≡ Err r
  snapshot-refused e = by-snapshot (ap is_accepted e) ∙ e

  pub snapshot-too-short : length input < 16406 → snapshot_refusal input ≡ Err SnapshotLength
  snapshot-too-short h =
      let all : length (snapshot_part input) ≡ length input = ap length (take_all 16406 input (omega arith)) in
      wrong-length cleared_vram (snapshot_part input) (length-replicate {A = ℕ} 16384 0) (λ e. omega arith)

  pub too_short : length input < 16406 → replay_refusal input ≡ Err SnapshotLength
  too_short h = snapshot-refused (snapshot-too-short h)

  -- .. and then that of the run
  pub by-run : snapshot_refusal input ≡ Ok tt → replay_refusal input ≡ (refusal_of_run input)
  unfolding replay_refusal
  by-run e = the-new e (refusal_of_run input) (snapshot_refusal input)

  pub neither-refused : replay_refusal input ≡ Ok tt → (snapshot_refusal input ≡ Ok tt) × ((refusal_of_run input) ≡ Ok tt)
  unfolding replay_refusal
  neither-refused e = both-accepted (snapshot_refusal input) (refusal_of_run input) e

  -- a refused input gives nothing on standard output, and the line of the refusal
  streams-refused : is_accepted (replay_refusal input) ≡ false → replayed input ≡ after_refusal (replay_refusal input)
  unfolding replayed
  streams-refused e = ap (λ (b : Bool). cond b (after_run input) (after_refusal (replay_refusal input))) e

  pub refused-writes : (r : Refusal) → replay_refusal input ≡ Err r
      → {w : Written} → w ≡ record { output = 0; errors = length (refused_text (refusal_number r)) }
      → (output errors : List ℕ) {errors' : List ℕ} → errors' ≡ put_at 0 (refused_text (refusal_number r)) errors
      → record { value : w ≡ written_of (replayed input); output_after : output ≡ put_at 0 (replayed input).output output; errors_after : errors' ≡ put_at 0 (replayed input).errors errors }
  refused-writes r is counts output errors line = rw (streams-refused (ap is_accepted is), is) (record { value = counts; output_after = refl; errors_after = line })

  pub streams-accepted : replay_refusal input ≡ Ok tt → replayed input ≡ after_run input
  unfolding replayed
  streams-accepted e = the-new e (after_run input) (after_refusal (replay_refusal input))
