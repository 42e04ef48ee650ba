-- Blocks of 17 bytes that are refused by their waiting flag, first byte or redraw mark: no state encodes to them.
use Prim.Native.Nat.{ℕ, ◌+◌, ◌*◌, ◌<◌}
use native.Mathlib.Omega.{arith}
use mathlib.Core.Path.{◌≡◌, ◌∙◌}
use mathlib.Core.Bool.{Bool, true, false}
use mathlib.Core.List.{List, [], ◌∷◌, ◌++◌}
use lib.Dec.{eqb, leb}
use lib.ListN.{length, get_or}
use borrow.Author.Tests.{lt-leb, eq-eqb, ne_eqb}
use Rattle.std.specs.Prelude.{Err}
use Rattle.chip.specs.State.{vram_size, masked, well_formed}
use Rattle.chip.specs.Map.{map_size}
use Rattle.chip.specs.TwoBytes.{low_first_at}
use Rattle.chip.specs.Layout.{waiting_valid, state_in, if_valid, decoded, block_size, chip_of}
use Rattle.chip.specs.Refusals.{Outcome, Test, vram_test, slice_test, state_test, number_of, refusal_of, if_accepted}
use Rattle.chip.specs.declared.state.Chip.{Chip}
use Rattle.chip.specs.declared.refusal.Refusal.TheVariants.{IllFormed}
use Rattle.chip.proofs.Laws.Ranges.{and-false}
use Rattle.chip.proofs.Laws.Refusals.{AllPass, passed}
use Rattle.scanline.specs.Calls.{line_size}
use Rattle.frame.specs.Lines.{frame_size, notes_size}
use Rattle.snapshot.specs.Format.{snapshot_size}
use Rattle.snapshot.specs.Calls.{output_tests}
use Rattle.birdcleft.specs.Calls.{control_write, data_write, data_read, status_read, end_of_display, interrupt_line, reset}
use Rattle.birdcleft.specs.Lines.{draw_line}
use Rattle.birdcleft.specs.Points.{point, origin}
use Rattle.birdcleft.specs.Frames.{full_draw, refresh}
use Rattle.birdcleft.specs.Snapshots.{write_snapshot}
use Rattle.birdcleft.specs.Logs.{outcome_size, run_log}
use Rattle.birdcleft.proofs.Order as order

-- The waiting flag, the first byte and the redraw mark of a block.
abbrev pub flag_in : List ℕ → ℕ
flag_in block = get_or block 11 0

abbrev pub first_byte_in : List ℕ → ℕ
first_byte_in block = get_or block 12 0

abbrev pub redraw_in : List ℕ → ℕ
redraw_in block = get_or block 14 0

-- The flag or the redraw mark is neither 0 nor 1, or there is a first byte while the flag says that none waits.
pub data NoState (block : List ℕ) : Type 0 where
  flag-above-1 : 1 < flag_in block → NoState block
  redraw-above-1 : 1 < redraw_in block → NoState block
  byte-without-flag : flag_in block ≡ 0 → (first_byte_in block ≡ 0 → ⊥) → NoState block

-- where one of the two tests fails the address is too large
not_valid : (x : Bool) (c : Chip) → x ≡ false → well_formed (if_valid x c) ≡ false
unfolding well_formed
not_valid x c e = rw e (and-false (masked c.registers))

not-valid-inside : (x y : Bool) (c : Chip) → y ≡ false → well_formed (if_valid x (if_valid y c)) ≡ false
unfolding well_formed
not-valid-inside true y c e = not_valid y c e
not-valid-inside false y c e = and-false (masked c.registers)

flag-invalid : (f a : ℕ) → 1 < f → waiting_valid f a ≡ false
flag-invalid f a h = rw (ne_eqb f 1 (λ e. omega arith), ne_eqb f 0 (λ e. omega arith))

byte-invalid : (f a : ℕ) → f ≡ 0 → (a ≡ 0 → ⊥) → waiting_valid f a ≡ false
byte-invalid f a z n = rw (ne_eqb f 1 (λ e. omega arith), ne_eqb a 0 n) (and-false (eqb f 0))

module _ (block : List ℕ) where
  -- Such a block decodes to a state that is not well-formed.
  pub no-state : NoState block → well_formed (chip_of block) ≡ false
  unfolding chip_of decoded
  no-state (flag-above-1 h) =
      not-valid-inside (leb (redraw_in block) 1) (waiting_valid (flag_in block) (first_byte_in block)) (state_in block (eqb (redraw_in block) 1) (low_first_at block 15))
      (flag-invalid (flag_in block) (first_byte_in block) h)
  no-state (redraw-above-1 h) = not_valid (leb (redraw_in block) 1) (decoded block (eqb (redraw_in block) 1) (low_first_at block 15)) (lt-leb (redraw_in block) 1 h)
  no-state (byte-without-flag z n) =
      not-valid-inside (leb (redraw_in block) 1) (waiting_valid (flag_in block) (first_byte_in block)) (state_in block (eqb (redraw_in block) 1) (low_first_at block 15))
      (byte-invalid (flag_in block) (first_byte_in block) z n)

-- The result with refusal number 3.
abbrev pub refused : ℕ
refused = 3 * 256

-- A call that tests the state, and whose other tests, ts, pass, refuses such a block.
module _ (block : List ℕ) (unencoded : NoState block) where
  ill-formed : (ts : List Test) → AllPass ts → refusal_of (ts ++ (state_test (chip_of block) ∷ [])) ≡ Err IllFormed
  ill-formed [] p = rw (no-state block unencoded)
  ill-formed (t ∷ ts) p = passed t (ts ++ (state_test (chip_of block) ∷ [])) p.0 ∙ ill-formed ts p.1

  pub no-state-refused : (ts : List Test) → AllPass ts → (number : ℕ) → order.result_after (ts ++ (state_test (chip_of block) ∷ [])) number ≡ refused
  no-state-refused ts p number = by (ill-formed ts p)
    where
      by : {r : Outcome} → r ≡ Err IllFormed → number_of r * 256 + if_accepted r number 0 ≡ refused
      by e = rw e

-- So each of the fourteen calls from C that test the state refuses such a block, if every list that it is lent has its length.
-- (Power-up and reading a snapshot replace the state.)
module _ (block : List ℕ) (unencoded : NoState block) (seventeen : length block ≡ block_size) where
  refuses : (ts : List Test) → AllPass ts → (number : ℕ) → order.result_after (slice_test block_size block ∷ (ts ++ (state_test (chip_of block) ∷ []))) number ≡ refused
  refuses ts p number = no-state-refused block unencoded (slice_test block_size block ∷ ts) (eq-eqb _ _ seventeen, p) number

  pub status-read-refused : (status_read block).result ≡ refused
  status-read-refused = order.status-read-order block ∙ refuses [] tt _

  pub end-of-display-refused : (end_of_display block).result ≡ refused
  end-of-display-refused = order.end-of-display-order block ∙ refuses [] tt _

  pub interrupt-line-refused : interrupt_line block ≡ refused
  interrupt-line-refused = order.interrupt-line-order block ∙ refuses [] tt _

  pub reset-refused : (reset block).result ≡ refused
  reset-refused = order.reset-order block ∙ refuses [] tt _

  module _ (vram : List ℕ) (long : length vram ≡ vram_size) where
    with-vram : (ts : List Test) → AllPass ts → (number : ℕ) → order.result_after (slice_test block_size block ∷ vram_test vram ∷ (ts ++ (state_test (chip_of block) ∷ []))) number ≡ refused
    with-vram ts p number = refuses (vram_test vram ∷ ts) (eq-eqb _ _ long, p) number

    pub control-write-refused : (b : ℕ) → (control_write block vram b).result ≡ refused
    control-write-refused b = order.control-write-order block vram b ∙ with-vram [] tt _

    pub data-read-refused : (data_read block vram).result ≡ refused
    data-read-refused = order.data-read-order block vram ∙ with-vram [] tt _

    -- The tests of a line's number, and of a point's column, come later, and do not matter.
    pub draw-line-refused : (line codes : List ℕ) (l : ℕ) → length line ≡ line_size → length codes ≡ line_size → (draw_line block vram line codes l).result ≡ refused
    draw-line-refused line codes l fits fit =
        order.draw-line-order block vram line codes l
        ∙ rw (eq-eqb (length vram) vram_size long, eq-eqb (length block) block_size seventeen, eq-eqb (length line) line_size fits, eq-eqb (length codes) line_size fit, no-state block unencoded)

    pub point-refused : (l x : ℕ) → point block vram l x ≡ refused
    point-refused l x =
        order.point-order block vram l x
        ∙ rw (eq-eqb (length vram) vram_size long, eq-eqb (length block) block_size seventeen, no-state block unencoded)

    pub origin-refused : (l x : ℕ) → origin block vram l x ≡ refused
    origin-refused l x =
        order.origin-order block vram l x
        ∙ rw (eq-eqb (length vram) vram_size long, eq-eqb (length block) block_size seventeen, no-state block unencoded)

    pub write-snapshot-refused : (out : List ℕ) → length out ≡ snapshot_size → write_snapshot block vram out ≡ refused
    write-snapshot-refused out fits = order.write-snapshot-order block vram out ∙ with-vram (output_tests out) (eq-eqb _ _ fits, tt) _

    module _ (map : List ℕ) (mapped : length map ≡ map_size) where
      pub data-write-refused : (b : ℕ) → (data_write block vram map b).result ≡ refused
      data-write-refused b = order.data-write-order block vram map b ∙ with-vram (slice_test map_size map ∷ []) (eq-eqb _ _ mapped, tt) _

      -- The tests of the log come later, and do not matter.
      pub run-log-refused : (line log outcome : List ℕ) → length line ≡ line_size → length outcome ≡ outcome_size → (run_log block vram map line log outcome).result ≡ refused
      run-log-refused line log outcome fits four =
          order.run-log-order block vram map line log outcome
          ∙ rw (eq-eqb (length vram) vram_size long, eq-eqb (length block) block_size seventeen, eq-eqb (length outcome) outcome_size four, eq-eqb (length map) map_size mapped, eq-eqb (length line) line_size fits, no-state block unencoded)

      module _ (frame notes : List ℕ) (framed : length frame ≡ frame_size) (noted : length notes ≡ notes_size) where
        draw-refused : (number : ℕ) → order.result_after (slice_test block_size block ∷ vram_test vram ∷ slice_test map_size map ∷ slice_test frame_size frame ∷ slice_test notes_size notes ∷ state_test (chip_of block) ∷ []) number ≡ refused
        draw-refused number =
            with-vram (slice_test map_size map ∷ slice_test frame_size frame ∷ slice_test notes_size notes ∷ [])
            (eq-eqb _ _ mapped, (eq-eqb _ _ framed, (eq-eqb _ _ noted, tt))) number

        pub full-draw-refused : (full_draw block vram map frame notes).result ≡ refused
        full-draw-refused = order.full-draw-order block vram map frame notes ∙ draw-refused _

        pub refresh-refused : (refresh block vram map frame notes).result ≡ refused
        refresh-refused = order.refresh-order block vram map frame notes ∙ draw-refused _
