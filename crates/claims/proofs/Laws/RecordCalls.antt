-- The laws of the calls that a record of a log can name.
use Prim.Native.Nat.{ℕ}
use mathlib.Core.Path.{◌≡◌, refl, ◌∙◌}
use mathlib.Core.Bool.{true}
use mathlib.Core.List.{List}
use lib.Dec.{lit<}
use lib.ListN.{set, length-set}
use Rattle.chip.specs.State.{well_formed}
use Rattle.chip.specs.Ports.{control}
use Rattle.chip.proofs.Laws.Ready.{Ready, ready-control, ready_read, ready-status-read, ready-ended, ready-reset}
use Rattle.scanline.specs.Calls.{note_at}
use Rattle.scanline.proofs.Laws.Ready.{ready-line}
use Rattle.birdcleft.specs.Calls.{block_entry, vram_entry, result_through, block_through, list_through}
use Rattle.claims.specs.Bench.{Bench, Typed}
use Rattle.claims.specs.Call.{Op}
use Rattle.claims.specs.Descriptions.{described}
use Rattle.claims.proofs.Laws.ControlWrites.{control-redraws, control-eight}
use Rattle.claims.proofs.Laws.Invariant.{sets-mark, changes-no-line, writes_byte, state-effect}
use Rattle.claims.proofs.Laws.Lawful.{Lawful, nothing-more, by_number, accepted-number, stores}

-- a state that passed its test
pub passed-test : {b : Bench} → Typed b → well_formed b.chip ≡ true → Ready b.chip
passed-test typed ok = record { fits = typed.chip; well-formed = ok }

pub control-write-lawful : (x : ℕ) → Lawful (described (Op.control_write x))
unfolding block_entry vram_entry result_through block_through list_through
control-write-lawful x =
    record {
      accepted = λ b ok. rw ok;
      only-from-c = nothing-more;
      refused = λ b e. rw e;
      not_entered = λ block b e. by_number _ (rw e);
      entered = λ b fits n e. stores (described (Op.control_write x)) b fits 0 (lit< tt) refl (λ r m. rw m) (rw (e, accepted-number)) (λ ok. rw ok (refl, refl, (control-eight x b.vram b.chip fits.eight)));
      effect = λ b h lengths typed p ok. rw ok (state-effect (control x b.vram b.chip) lengths typed refl (ready-control (passed-test typed p.1.0) b.vram typed.vram x h) (control-redraws x b.vram b.chip));
    }

pub data-write-lawful : (x : ℕ) → Lawful (described (Op.data_write x))
unfolding block_entry vram_entry result_through block_through list_through
data-write-lawful x =
    record {
      accepted = λ b ok. rw ok;
      only-from-c = nothing-more;
      refused = λ b e. rw e;
      not_entered = λ block b e. by_number _ (rw e);
      entered = λ b fits n e. stores (described (Op.data_write x)) b fits 0 (lit< tt) refl (λ r m. rw m) (rw (e, accepted-number)) (λ ok. rw ok (refl, refl, fits.eight));
      effect = λ b h lengths typed p ok. rw ok (writes_byte x refl refl h);
    }

pub data-read-lawful : Lawful (described Op.data_read)
unfolding block_entry vram_entry result_through block_through list_through
data-read-lawful =
    record {
      accepted = λ b ok. rw ok;
      only-from-c = nothing-more;
      refused = λ b e. rw e;
      not_entered = λ block b e. by_number _ (rw e);
      entered = λ b fits n e. stores (described Op.data_read) b fits b.chip.buffer fits.buffer refl (λ r m. rw m) (rw (e, accepted-number)) (λ ok. rw ok (refl, refl, fits.eight));
      effect = λ b h lengths typed p ok. rw ok (changes-no-line _ refl refl (ready_read (passed-test typed p.1.0) b.vram typed.vram) refl refl);
    }

pub status-read-lawful : Lawful (described Op.status_read)
unfolding block_entry vram_entry result_through block_through list_through
status-read-lawful =
    record {
      accepted = λ b ok. rw ok;
      only-from-c = nothing-more;
      refused = λ b e. rw e;
      not_entered = λ block b e. by_number _ (rw e);
      entered = λ b fits n e. stores (described Op.status_read) b fits b.chip.status fits.status refl (λ r m. rw m) (rw (e, accepted-number)) (λ ok. rw ok (refl, refl, fits.eight));
      effect = λ b h lengths typed p ok. rw ok (changes-no-line _ refl refl (ready-status-read (passed-test typed p.0)) refl refl);
    }

pub end-of-display-lawful : Lawful (described Op.end_of_display)
unfolding block_entry vram_entry result_through block_through list_through
end-of-display-lawful =
    record {
      accepted = λ b ok. rw ok;
      only-from-c = nothing-more;
      refused = λ b e. rw e;
      not_entered = λ block b e. by_number _ (rw e);
      entered = λ b fits n e. stores (described Op.end_of_display) b fits 0 (lit< tt) refl (λ r m. rw m) (rw (e, accepted-number)) (λ ok. rw ok (refl, refl, fits.eight));
      effect = λ b h lengths typed p ok. rw ok (changes-no-line _ refl refl (ready-ended (passed-test typed p.0)) refl refl);
    }

pub reset-lawful : Lawful (described Op.reset)
unfolding block_entry vram_entry result_through block_through list_through
reset-lawful =
    record {
      accepted = λ b ok. rw ok;
      only-from-c = nothing-more;
      refused = λ b e. rw e;
      not_entered = λ block b e. by_number _ (rw e);
      entered = λ b fits n e. let r = b.chip.registers in stores (described Op.reset) b fits 0 (lit< tt) refl (λ r m. rw m) (rw (e, accepted-number)) (λ ok. rw ok (refl, refl, (length-set (set r 0 0) 1 0 ∙ length-set r 0 0 ∙ fits.eight)));
      effect = λ b h lengths typed p ok. rw ok (sets-mark _ b.vram refl (ready-reset (passed-test typed p.0)) refl lengths.vram typed.vram);
    }

pub draw-line-lawful : (line codes : List ℕ) (l : ℕ) → Lawful (described (Op.draw_line line codes l))
unfolding block_entry vram_entry result_through block_through list_through
draw-line-lawful line codes l =
    record {
      accepted = λ b ok. rw ok;
      only-from-c = nothing-more;
      refused = λ b e. rw e;
      not_entered = λ block b e. by_number _ (rw e);
      entered = λ b fits n e. stores (described (Op.draw_line line codes l)) b fits 0 (lit< tt) refl (λ r m. rw m) (rw (e, accepted-number)) (λ ok. rw ok (refl, refl, fits.eight));
      effect = λ b h lengths typed p ok. rw ok (changes-no-line _ refl refl (ready-line (passed-test typed p.1.0) (note_at b.chip.registers b.vram l)) refl refl);
    }
