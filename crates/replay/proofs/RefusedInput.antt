-- Which inputs are refused, and with which number.
use Prim.Native.Nat.{ℕ}
use native.Mathlib.Omega.{arith}
use mathlib.Core.Path.{◌≡◌, refl, ap, ◌∙◌}
use mathlib.Core.Bool.{Bool, true, false, cond}
use mathlib.Core.List.{List}
use lib.ListN.{length, length-drop, length-replicate}
use lib.Seq.{length-take-le}
use Rattle.std.specs.Prelude.{Err}
use Rattle.chip.specs.Map.{map_size}
use Rattle.chip.specs.Refusals.{Outcome, refusal_of, is_accepted, if_accepted}
use Rattle.chip.specs.declared.refusal.Refusal.TheVariants.{LogForm}
use Rattle.chip.proofs.Laws.Refusals.{is-accepted}
use Rattle.scanline.specs.Calls.{line_size}
use Rattle.port_log.specs.Tests.{size_allowed, log_tests}
use Rattle.port_log.proofs.Laws.Tested.{log-decides}
use Rattle.input.specs.Came.{long_buffer_size, came_in, Came}
use Rattle.replay.specs.Streams.{log_part, start_state, start_vram, clear_list, replay_refusal, snapshot_refusal}
use Rattle.replay.proofs.Laws.Refused.{by-snapshot, by-run}
use Rattle.replay.proofs.Laws.Accepted.{start-formed, start-full}

-- Whatever comes in is refused with the refusal of the snapshot's part, and where that is accepted with that of the log
-- behind it, whose tests give 8 or 9. No other test of the run can fail.
pub snapshot-then-log : (input : List ℕ) → replay_refusal input ≡ if_accepted (snapshot_refusal input) (refusal_of (log_tests (log_part input))) (snapshot_refusal input)
snapshot-then-log input = by (is_accepted (snapshot_refusal input)) refl
  where
    by : (b : Bool) → is_accepted (snapshot_refusal input) ≡ b → replay_refusal input ≡ cond b (refusal_of (log_tests (log_part input))) (snapshot_refusal input)
    by true e =
        let ok = is-accepted (snapshot_refusal input) e in
        by-run input ok
        ∙ log-decides (start_state input) (start_vram input) (clear_list map_size) (clear_list line_size) (log_part input) (start-full input ok) (length-replicate {A = ℕ} 2048 0) (length-replicate {A = ℕ} 256 0) (start-formed input ok)
    by false e = by-snapshot input e

-- a log of 40,005 bytes
too_long : (log : List ℕ) → length log ≡ 40005 → refusal_of (log_tests log) ≡ Err LogForm
unfolding size_allowed
too_long log e = rw e

-- If as many bytes came in as the buffer holds, they are one too many for a snapshot and the longest log. Whatever they are, they
-- are refused: with the refusal of the snapshot's part, if it has one, and with 8 otherwise. That a longer input fills the buffer
-- is what reading until it is full does; no contract of the C library says so.
pub longer-is-refused : (buffer : List ℕ) → Came long_buffer_size long_buffer_size buffer
    → let input = came_in long_buffer_size buffer in
    replay_refusal input ≡ if_accepted (snapshot_refusal input) (Err LogForm) (snapshot_refusal input)
longer-is-refused buffer came =
    let input : List ℕ = came_in long_buffer_size buffer in
    let all : length input ≡ 56411 = length-take-le long_buffer_size buffer (omega arith) in
    snapshot-then-log input
    ∙ ap (λ (r : Outcome). if_accepted (snapshot_refusal input) r (snapshot_refusal input)) (too_long (log_part input) (rw length-drop (omega arith)))
