-- The order of tests of a call from C. A call makes some tests at entry and the others in the direct call, on the state that
-- the block decodes to. It answers all the same as if it made them together in the one order: the direct call's tests, and
-- the block's length with them, and for the run of a log the outcome's.
use Prim.Native.Nat.{ℕ, ◌+◌, ◌*◌}
use mir.Val.{bool_byte}
use mathlib.Core.Path.{◌≡◌, refl, ap, ◌∙◌}
use mathlib.Core.Bool.{Bool, true, false}
use mathlib.Core.List.{List, [], ◌∷◌}
use lib.Dec.{eqb}
use lib.ListN.{length}
use Rattle.std.specs.Prelude.{Ok, Err}
use Rattle.chip.specs.Map.{map_size}
use Rattle.chip.specs.Ports.{interrupt_on}
use Rattle.chip.specs.Refusals.{Outcome, Test, vram_test, slice_test, state_test, number_of, gives, refusal_of, if_accepted, giving, value_of}
use Rattle.chip.specs.Layout.{block_size, chip_of}
use Rattle.chip.specs.Calls.{power_up_tests, control_write_tests, data_write_tests, data_read_tests, status_read_tests, end_of_display_tests, interrupt_line_tests, reset_tests}
use Rattle.chip.specs.declared.state.Chip.{Chip}
use Rattle.chip.specs.declared.refusal.Refusal.TheVariants.{VramLength, SliceLength}
use Rattle.scanline.specs.Calls.{draw_line_own_tests, draw_line_tests}
use Rattle.point.specs.Calls.{point_colour, point_origin, point_own_tests, point_tests, number_by}
use Rattle.point.specs.declared.numbers.Point.{Point}
use Rattle.frame.specs.Lines.{frame_size, notes_size}
use Rattle.frame.specs.Due.{due_count}
use Rattle.frame.specs.Calls.{draw_tests}
use Rattle.snapshot.specs.Calls.{file_tests, read_tests, output_tests, write_tests}
use Rattle.port_log.specs.Run as direct
use Rattle.port_log.specs.Run.{found_by}
use Rattle.port_log.specs.declared.running.Reached.{Reached}
use Rattle.birdcleft.specs.Calls.{block_entry, vram_entry, result_through, power_up, control_write, data_write, data_read, status_read, end_of_display, interrupt_line, reset}
use Rattle.birdcleft.specs.Lines.{draw_line}
use Rattle.birdcleft.specs.Points.{point, origin}
use Rattle.birdcleft.specs.Frames.{full_draw, refresh}
use Rattle.birdcleft.specs.Snapshots.{read_snapshot, write_snapshot}
use Rattle.birdcleft.specs.Logs.{outcome_size, run_entry, run_log}

-- A test of VRAM's length, and one of another slice's, by whether it passes.
abbrev pub vram_tested : Bool → Test
vram_tested p = record { refusal = VramLength; passes = p }

abbrev pub slice_tested : Bool → Test
slice_tested q = record { refusal = SliceLength; passes = q }

-- The result of a call that makes these tests together: 256 times the number of the first refusal in the one order, and the
-- number that the call reads where every test passes.
abbrev pub result_after : List Test → ℕ → ℕ
result_after ts number = number_of (refusal_of ts) * 256 + if_accepted (refusal_of ts) number 0

-- The number of a call's answer, by how its tests end: of a call that answers one number, of a point, and of a run.
by_outcome : (r : Outcome) (x : ℕ) → number_of (giving r x) * 256 + value_of (giving r x) ≡ number_of r * 256 + if_accepted r x 0
by_outcome (Ok u) x = refl
by_outcome (Err e) x = refl

by_point : (number : Point → ℕ) (r : Outcome) (p : Point) → number_of (number_by number (giving r p)) * 256 + value_of (number_by number (giving r p)) ≡ number_of r * 256 + if_accepted r (number p) 0
by_point number (Ok u) p = refl
by_point number (Err e) p = refl

by_run : (r : Outcome) (reached : Reached) → number_of (found_by (giving r reached)) * 256 + value_of (found_by (giving r reached)) ≡ number_of r * 256 + if_accepted r reached.found 0
by_run (Ok u) reached = refl
by_run (Err e) reached = refl

-- The tests at entry, and then the direct call's. (It tests VRAM's length at most once: its other tests, ts, do not give that
-- refusal.)
module _ (ts : List Test) (other : gives ts VramLength ≡ false) (number : ℕ) (block : List ℕ) where
  pub vram-in-order : (vram : List ℕ) {n : ℕ} → n ≡ result_after (vram_test vram ∷ ts) number → if_accepted (vram_entry block vram) n (number_of (vram_entry block vram) * 256) ≡ result_after (slice_test block_size block ∷ vram_test vram ∷ ts) number
  unfolding vram_entry
  vram-in-order vram is =
      ap (λ (k : ℕ). if_accepted (vram_entry block vram) k (number_of (vram_entry block vram) * 256)) is ∙ by (eqb (length vram) 16384) (eqb (length block) 17)
    where
      by : (p q : Bool) → let entry = refusal_of (vram_tested p ∷ slice_tested q ∷ []) in if_accepted entry (result_after (vram_tested p ∷ ts) number) (number_of entry * 256) ≡ result_after (slice_tested q ∷ vram_tested p ∷ ts) number
      by true true = refl
      by true false = rw other
      by false q = refl

  -- The run of a log tests the length of its outcome at entry too.
  pub run-in-order : (vram outcome : List ℕ) {n : ℕ} → n ≡ result_after (vram_test vram ∷ ts) number → if_accepted (run_entry block vram outcome) n (number_of (run_entry block vram outcome) * 256) ≡ result_after (slice_test block_size block ∷ slice_test outcome_size outcome ∷ vram_test vram ∷ ts) number
  unfolding run_entry
  run-in-order vram outcome is =
      ap (λ (k : ℕ). if_accepted (run_entry block vram outcome) k (number_of (run_entry block vram outcome) * 256)) is ∙ by (eqb (length vram) 16384) (eqb (length block) 17) (eqb (length outcome) 4)
    where
      by : (p q o : Bool) → let entry = refusal_of (vram_tested p ∷ slice_tested q ∷ slice_tested o ∷ []) in if_accepted entry (result_after (vram_tested p ∷ ts) number) (number_of entry * 256) ≡ result_after (slice_tested q ∷ slice_tested o ∷ vram_tested p ∷ ts) number
      by true true true = refl
      by true true false = rw other
      by true false o = rw other
      by false q o = refl

  pub block-in-order : {n : ℕ} → n ≡ result_after ts number → if_accepted (block_entry block) n (number_of (block_entry block) * 256) ≡ result_after (slice_test block_size block ∷ ts) number
  unfolding block_entry
  block-in-order is = ap (λ (k : ℕ). if_accepted (block_entry block) k (number_of (block_entry block) * 256)) is ∙ by (eqb (length block) 17)
    where
      by : (q : Bool) → let entry = refusal_of (slice_tested q ∷ []) in if_accepted entry (result_after ts number) (number_of entry * 256) ≡ result_after (slice_tested q ∷ ts) number
      by true = refl
      by false = rw other

-- So it is for each of the sixteen calls, whatever bytes and lists are lent.
module _ (block : List ℕ) where
  abbrev pub block_test : Test
  block_test = slice_test block_size block

  abbrev pub held : Chip
  held = chip_of block

  pub status-read-order : (status_read block).result ≡ result_after (block_test ∷ status_read_tests held) held.status
  unfolding result_through
  status-read-order = block-in-order (status_read_tests held) refl held.status block (by_outcome _ _)

  pub end-of-display-order : (end_of_display block).result ≡ result_after (block_test ∷ end_of_display_tests held) 0
  unfolding result_through
  end-of-display-order = block-in-order (end_of_display_tests held) refl 0 block (by_outcome _ _)

  pub interrupt-line-order : interrupt_line block ≡ result_after (block_test ∷ interrupt_line_tests held) (bool_byte (interrupt_on held))
  unfolding result_through
  interrupt-line-order = block-in-order (interrupt_line_tests held) refl (bool_byte (interrupt_on held)) block (by_outcome _ _)

  pub reset-order : (reset block).result ≡ result_after (block_test ∷ reset_tests held) 0
  unfolding result_through
  reset-order = block-in-order (reset_tests held) refl 0 block (by_outcome _ _)

  module _ (vram : List ℕ) where
    pub power-up-order : (power_up block vram).result ≡ result_after (block_test ∷ power_up_tests vram) 0
    unfolding result_through
    power-up-order = vram-in-order [] refl 0 block vram (by_outcome _ _)

    pub control-write-order : (b : ℕ) → (control_write block vram b).result ≡ result_after (block_test ∷ control_write_tests held vram) 0
    unfolding result_through
    control-write-order b = vram-in-order (state_test held ∷ []) refl 0 block vram (by_outcome _ _)

    pub data-write-order : (map : List ℕ) (b : ℕ) → (data_write block vram map b).result ≡ result_after (block_test ∷ data_write_tests held vram map) 0
    unfolding result_through
    data-write-order map b = vram-in-order (slice_test map_size map ∷ state_test held ∷ []) refl 0 block vram (by_outcome _ _)

    pub data-read-order : (data_read block vram).result ≡ result_after (block_test ∷ data_read_tests held vram) held.buffer
    unfolding result_through
    data-read-order = vram-in-order (state_test held ∷ []) refl held.buffer block vram (by_outcome _ _)

    pub draw-line-order : (line codes : List ℕ) (l : ℕ) → (draw_line block vram line codes l).result ≡ result_after (block_test ∷ draw_line_tests held vram line codes l) 0
    unfolding result_through
    draw-line-order line codes l = vram-in-order (state_test held ∷ draw_line_own_tests line codes l) refl 0 block vram (by_outcome _ _)

    pub point-order : (l x : ℕ) → point block vram l x ≡ result_after (block_test ∷ point_tests held vram l x) (point_colour held.registers vram l x)
    unfolding result_through
    point-order l x = vram-in-order (state_test held ∷ point_own_tests l x) refl (point_colour held.registers vram l x) block vram (by_point (λ p. p.colour) _ _)

    pub origin-order : (l x : ℕ) → origin block vram l x ≡ result_after (block_test ∷ point_tests held vram l x) (point_origin held.registers vram l x)
    unfolding result_through
    origin-order l x = vram-in-order (state_test held ∷ point_own_tests l x) refl (point_origin held.registers vram l x) block vram (by_point (λ p. p.origin) _ _)

    pub read-snapshot-order : (s : List ℕ) → (read_snapshot block vram s).result ≡ result_after (block_test ∷ read_tests vram s) 0
    unfolding result_through
    read-snapshot-order s = vram-in-order (file_tests s) refl 0 block vram (by_outcome _ _)

    pub write-snapshot-order : (out : List ℕ) → write_snapshot block vram out ≡ result_after (block_test ∷ write_tests held vram out) 0
    unfolding result_through
    write-snapshot-order out = vram-in-order (state_test held ∷ output_tests out) refl 0 block vram (by_outcome _ _)

    module _ (map frame notes : List ℕ) where
      abbrev draw_others : List Test
      draw_others = slice_test map_size map ∷ slice_test frame_size frame ∷ slice_test notes_size notes ∷ state_test held ∷ []

      pub full-draw-order : (full_draw block vram map frame notes).result ≡ result_after (block_test ∷ draw_tests held vram map frame notes) 0
      unfolding result_through
      full-draw-order = vram-in-order draw_others refl 0 block vram (by_outcome _ _)

      pub refresh-order : (refresh block vram map frame notes).result ≡ result_after (block_test ∷ draw_tests held vram map frame notes) (due_count held.redraw held.registers vram map)
      unfolding result_through
      refresh-order = vram-in-order draw_others refl (due_count held.redraw held.registers vram map) block vram (by_outcome _ _)

    module _ (map line log : List ℕ) where
      abbrev found : ℕ
      found = (direct.end_of held vram map line log).found

      pub run-log-order : (outcome : List ℕ) → (run_log block vram map line log outcome).result ≡ result_after (block_test ∷ slice_test outcome_size outcome ∷ direct.run_tests held vram map line log) found
      unfolding result_through
      run-log-order outcome =
          run-in-order (slice_test map_size map ∷ state_test held ∷ direct.run_own_tests line log) refl found block vram outcome (by_run _ _)
