-- The laws of each call.
use Prim.Native.Nat.{ℕ, ◌≤◌, ◌<◌}
use native.Mathlib.Omega.{arith}
use mathlib.Core.Path.{◌≡◌, refl, ap}
use mathlib.Core.Bool.{true}
use mathlib.Core.List.{List}
use lib.Dec.{eqb, lit<}
use lib.ListN.{length, length-replicate}
use mir.Val.{bool_byte}
use borrow.Author.Tests.{eqb-true}
use Rattle.chip.specs.State.{vram_size, Bytes, Fits, power_up_state}
use Rattle.chip.specs.Ports.{cleared_vram, interrupt_on}
use Rattle.chip.specs.Refusals.{is_accepted}
use Rattle.chip.specs.declared.state.Chip.{Chip}
use Rattle.chip.proofs.Laws.Lists.{bytes-zeros}
use Rattle.chip.proofs.Laws.Refusals.{all_pass}
use Rattle.chip.proofs.Laws.Ready.{ready-power-up}
use Rattle.point.specs.Calls.{point_colour, point_origin}
use Rattle.point.proofs.Laws.Small.{colour-small, origin-small}
use Rattle.frame.specs.Lines.{line_count}
use Rattle.frame.specs.Due.{due, due_count}
use Rattle.frame.proofs.Laws.Lines.{bit-small, count-le}
use Rattle.snapshot.specs.Tests.{state_bytes, vram_bytes, held_state}
use Rattle.snapshot.proofs.Laws.Held.{ready_held, bytes-held}
use Rattle.snapshot.proofs.Laws.Parts.{length-state, length-vram}
use Rattle.birdcleft.specs.Calls.{block_entry, vram_entry, result_through, block_through, list_through}
use Rattle.claims.specs.Bench.{Bench}
use Rattle.claims.specs.Call.{Op}
use Rattle.claims.specs.Description.{tests}
use Rattle.claims.specs.Descriptions.{described}
use Rattle.claims.proofs.Laws.States.{decoded-eight, decoded-redraw}
use Rattle.claims.proofs.Laws.Invariant.{sets-mark, draws-all, changes-no-line, refreshes}
use Rattle.claims.proofs.Laws.Lawful.{Lawful, nothing-more, by_number, accepted-number, only-reads, stores}
use Rattle.claims.proofs.Laws.Draws.{full-drawn, due-drawn}
use Rattle.claims.proofs.Laws.RecordCalls.{passed-test, control-write-lawful, data-write-lawful, data-read-lawful, status-read-lawful, end-of-display-lawful, reset-lawful, draw-line-lawful}
use Rattle.claims.proofs.Laws.RunLog.{run-lawful}

count_small : (b : Bench) → due_count b.chip.redraw b.chip.registers b.vram b.map < 256
count_small b = let most = count-le line_count (due b.chip.redraw b.chip.registers b.vram b.map) in omega arith

line_small : (c : Chip) → bool_byte (interrupt_on c) < 256
line_small c = let most = bit-small (interrupt_on c) in omega arith

point-small : (b : Bench) → Fits b.chip → Bytes b.vram → (l x : ℕ) → point_colour b.chip.registers b.vram l x < 256
point-small b fits bytes l x = let below = colour-small b.chip.registers fits.registers b.vram bytes l x in omega arith

origin-byte : (b : Bench) (l x : ℕ) → point_origin b.chip.registers b.vram l x < 256
origin-byte b l x = let below = origin-small b.chip.registers b.vram l x in omega arith

-- a snapshot of the right length holds at least eight registers
long-state : (s : List ℕ) → eqb (length s) 16406 ≡ true → 8 ≤ length (state_bytes s)
long-state s whole = let e = length-state s (eqb-true _ _ whole) in omega arith

pub lawful : (op : Op) → Lawful (described op)
unfolding block_entry vram_entry result_through block_through list_through
lawful Op.power_up =
    record {
      accepted = λ b ok. rw ok;
      only-from-c = nothing-more;
      refused = λ b e. rw e;
      not_entered = λ block b e. by_number _ (rw e);
      entered = λ b fits n e. stores (described Op.power_up) b fits 0 (lit< tt) refl (λ r m. rw m) (rw (e, accepted-number)) (λ ok. rw ok (refl, refl, refl));
      effect = λ b h lengths typed p ok. rw ok (sets-mark power_up_state cleared_vram refl ready-power-up refl (length-replicate {A = ℕ} vram_size 0) (bytes-zeros vram_size));
    }
lawful (Op.control_write x) = control-write-lawful x
lawful (Op.data_write x) = data-write-lawful x
lawful Op.data_read = data-read-lawful
lawful Op.status_read = status-read-lawful
lawful Op.end_of_display = end-of-display-lawful
lawful Op.interrupt_line =
    record {
      accepted = λ b ok. rw ok;
      only-from-c = nothing-more;
      refused = λ b e. rw e;
      not_entered = λ block b e. by_number _ (rw e);
      entered = λ b fits n e. only-reads (described Op.interrupt_line) b fits _ (line_small b.chip) refl (λ r m. rw m) (rw e) (λ ok. rw ok (refl, refl));
      effect = λ b h lengths typed p ok. rw ok (changes-no-line _ refl refl (passed-test typed p.0) refl refl);
    }
lawful Op.reset = reset-lawful
lawful (Op.draw_line line codes l) = draw-line-lawful line codes l
lawful (Op.point l x) =
    record {
      accepted = λ b ok. rw ok;
      only-from-c = record { first = λ c e. cc; numbers_fit = λ vram bytes h. bytes };
      refused = λ b e. rw e;
      not_entered = λ block b e. by_number _ (rw e);
      entered = λ b fits bytes e. only-reads (described (Op.point l x)) b fits _ (point-small b fits bytes l x) refl (λ r m. rw m) (rw e) (λ ok. rw ok (refl, refl));
      effect = λ b h lengths typed p ok. changes-no-line _ refl refl (passed-test typed p.1.0) refl refl;
    }
lawful (Op.origin l x) =
    record {
      accepted = λ b ok. rw ok;
      only-from-c = nothing-more;
      refused = λ b e. rw e;
      not_entered = λ block b e. by_number _ (rw e);
      entered = λ b fits n e. only-reads (described (Op.origin l x)) b fits _ (origin-byte b l x) refl (λ r m. rw m) (rw e) (λ ok. rw ok (refl, refl));
      effect = λ b h lengths typed p ok. changes-no-line _ refl refl (passed-test typed p.1.0) refl refl;
    }
lawful Op.full_draw =
    record {
      accepted = λ b ok. rw ok;
      only-from-c = nothing-more;
      refused = λ b e. rw e;
      not_entered = λ block b e. by_number _ (rw e);
      entered = λ b fits n e. stores (described Op.full_draw) b fits 0 (lit< tt) refl (λ r m. rw m) (rw (e, accepted-number)) (λ ok. rw ok (refl, refl, fits.eight));
      effect = λ b h lengths typed p ok. draws-all (full-drawn b ok) (passed-test typed p.1.1.1.1.0);
    }
lawful Op.refresh =
    record {
      accepted = λ b ok. rw ok;
      only-from-c = nothing-more;
      refused = λ b e. rw e;
      not_entered = λ block b e. by_number _ (rw e);
      entered = λ b fits n e. stores (described Op.refresh) b fits _ (count_small b) refl (λ r m. rw m) (rw (e, accepted-number)) (λ ok. rw ok (refl, refl, fits.eight));
      effect = λ b h lengths typed p ok. refreshes refl (due-drawn b ok);
    }
lawful (Op.read_snapshot s) =
    record {
      accepted = λ b ok. rw ok;
      only-from-c = nothing-more;
      refused = λ b e. rw e;
      not_entered = λ block b e. by_number _ (rw e);
      entered = λ b fits n e. stores (described (Op.read_snapshot s)) b fits 0 (lit< tt) refl (λ r m. rw m) (rw (e, accepted-number))
          (λ ok. let p = all_pass (tests (described (Op.read_snapshot s)) b) (ap is_accepted ok) in rw ok (refl, refl, decoded-eight (state_bytes s) 0 (long-state s p.1.0)));
      effect = λ b h lengths typed p ok. rw ok (sets-mark (held_state s) (vram_bytes s) refl (ready_held s h (eqb-true _ _ p.1.0) p.1.1.1.1.0) (decoded-redraw (state_bytes s) 0) (length-vram s (eqb-true _ _ p.1.0)) (bytes-held s h));
    }
lawful (Op.write_snapshot s) =
    record {
      accepted = λ b ok. rw ok;
      only-from-c = nothing-more;
      refused = λ b e. rw e;
      not_entered = λ block b e. by_number _ (rw e);
      entered = λ b fits n e. only-reads (described (Op.write_snapshot s)) b fits 0 (lit< tt) refl (λ r m. rw m) (rw e) (λ ok. rw ok (refl, refl));
      effect = λ b h lengths typed p ok. rw ok (changes-no-line _ refl refl (passed-test typed p.1.0) refl refl);
    }
lawful (Op.run_log line log outcome) = run-lawful line log outcome
