-- The description of each call.
use Rattle.std.specs.Prelude.{true, false, [], ◌∷◌}
use Rattle.chip.specs.State.{Bytes}
use Rattle.chip.specs.Refusals.{slice_test}
use Rattle.chip.specs.Calls as chip
use Rattle.scanline.specs.Calls as scanline
use Rattle.point.specs.Calls as points
use Rattle.frame.specs.Calls as frame
use Rattle.snapshot.specs.Calls as snapshot
use Rattle.port_log.specs.Run as logs
use Rattle.birdcleft.specs.Calls as c-ports
use Rattle.birdcleft.specs.Lines as c-lines
use Rattle.birdcleft.specs.Points as c-points
use Rattle.birdcleft.specs.Frames as c-frames
use Rattle.birdcleft.specs.Snapshots as c-snapshots
use Rattle.birdcleft.specs.Logs as c-logs
use Rattle.claims.specs.Call.{Op}
use Rattle.claims.specs.Description.{Description, no_list, vram_alone, vram_and_map, all_lists, nothing, a_byte, nothing_more, of_answer, of_result, of_from_c, of_ran, of_outcome, answers, fills, replaces, writes, runs, draws}

abbrev pub described : Op → Description
described Op.power_up =
    record {
      takes = vram_alone;
      tests_state = false;
      brings = nothing;
      from_c = nothing_more;
      numbers = 1;
      establishes = true;
      directly = λ b. replaces b (of_answer (chip.power_up b.chip b.vram)) (chip.power_up_vram b.vram);
      through_c = λ block b. replaces b (of_from_c (c-ports.power_up block b.vram)) (c-ports.power_up_vram block b.vram);
    }
described (Op.control_write x) =
    record {
      takes = vram_alone;
      tests_state = true;
      brings = a_byte x;
      from_c = nothing_more;
      numbers = 1;
      establishes = false;
      directly = λ b. answers b (of_answer (chip.control_write b.chip b.vram x));
      through_c = λ block b. answers b (of_from_c (c-ports.control_write block b.vram x));
    }
described (Op.data_write x) =
    record {
      takes = vram_and_map;
      tests_state = true;
      brings = a_byte x;
      from_c = nothing_more;
      numbers = 1;
      establishes = false;
      directly = λ b.
          writes b (of_answer (chip.data_write b.chip b.vram b.map x))
          (chip.data_write_vram b.chip b.vram b.map x)
          (chip.data_write_map b.chip b.vram b.map);
      through_c = λ block b.
          writes b (of_from_c (c-ports.data_write block b.vram b.map x))
          (c-ports.data_write_vram block b.vram b.map x)
          (c-ports.data_write_map block b.vram b.map);
    }
described Op.data_read =
    record {
      takes = vram_alone;
      tests_state = true;
      brings = nothing;
      from_c = nothing_more;
      numbers = 1;
      establishes = false;
      directly = λ b. answers b (of_answer (chip.data_read b.chip b.vram));
      through_c = λ block b. answers b (of_from_c (c-ports.data_read block b.vram));
    }
described Op.status_read =
    record {
      takes = no_list;
      tests_state = true;
      brings = nothing;
      from_c = nothing_more;
      numbers = 1;
      establishes = false;
      directly = λ b. answers b (of_answer (chip.status_read b.chip));
      through_c = λ block b. answers b (of_from_c (c-ports.status_read block));
    }
described Op.end_of_display =
    record {
      takes = no_list;
      tests_state = true;
      brings = nothing;
      from_c = nothing_more;
      numbers = 1;
      establishes = false;
      directly = λ b. answers b (of_answer (chip.end_of_display b.chip));
      through_c = λ block b. answers b (of_from_c (c-ports.end_of_display block));
    }
described Op.interrupt_line =
    record {
      takes = no_list;
      tests_state = true;
      brings = nothing;
      from_c = nothing_more;
      numbers = 1;
      establishes = false;
      directly = λ b. answers b (of_answer (chip.interrupt_line b.chip));
      through_c = λ block b. answers b (of_result block (c-ports.interrupt_line block));
    }
described Op.reset =
    record {
      takes = no_list;
      tests_state = true;
      brings = nothing;
      from_c = nothing_more;
      numbers = 1;
      establishes = true;
      directly = λ b. answers b (of_answer (chip.reset b.chip));
      through_c = λ block b. answers b (of_from_c (c-ports.reset block));
    }
described (Op.draw_line line codes l) =
    record {
      takes = vram_alone;
      tests_state = true;
      brings = record { tests = λ c. scanline.draw_line_own_tests line codes l; slices = line ∷ codes ∷ []; AreBytes = Unit {0} };
      from_c = nothing_more;
      numbers = 1;
      establishes = false;
      directly = λ b.
          fills b (of_answer (scanline.draw_line b.chip b.vram line codes l))
          (scanline.draw_line_line b.chip b.vram line codes l ∷ scanline.draw_line_origins b.chip b.vram line codes l ∷ []);
      through_c = λ block b.
          fills b (of_from_c (c-lines.draw_line block b.vram line codes l))
          (c-lines.draw_line_line block b.vram line codes l ∷ c-lines.draw_line_origins block b.vram line codes l ∷ []);
    }
described (Op.point l x) =
    record {
      takes = vram_alone;
      tests_state = true;
      brings = record { tests = λ c. points.point_own_tests l x; slices = []; AreBytes = Unit {0} };
      from_c = record { tests = []; NumbersFit = λ vram. Bytes vram };
      numbers = 1;
      establishes = false;
      directly = λ b. answers b (of_answer (points.colour_answer (points.point b.chip b.vram l x)));
      through_c = λ block b. answers b (of_result block (c-points.point block b.vram l x));
    }
-- The same call, for the other of its two numbers.
described (Op.origin l x) =
    record {
      takes = vram_alone;
      tests_state = true;
      brings = record { tests = λ c. points.point_own_tests l x; slices = []; AreBytes = Unit {0} };
      from_c = nothing_more;
      numbers = 1;
      establishes = false;
      directly = λ b. answers b (of_answer (points.origin_answer (points.point b.chip b.vram l x)));
      through_c = λ block b. answers b (of_result block (c-points.origin block b.vram l x));
    }
described Op.full_draw =
    record {
      takes = all_lists;
      tests_state = true;
      brings = nothing;
      from_c = nothing_more;
      numbers = 1;
      establishes = true;
      directly = λ b.
          draws b (of_answer (frame.full_draw b.chip b.vram b.map b.frame b.notes)) (frame.draw_map b.chip b.vram b.map b.frame b.notes)
          (frame.full_draw_frame b.chip b.vram b.map b.frame b.notes)
          (frame.full_draw_notes b.chip b.vram b.map b.frame b.notes);
      through_c = λ block b.
          draws b (of_from_c (c-frames.full_draw block b.vram b.map b.frame b.notes)) (c-frames.draw_map block b.vram b.map b.frame b.notes)
          (c-frames.full_draw_frame block b.vram b.map b.frame b.notes)
          (c-frames.full_draw_notes block b.vram b.map b.frame b.notes);
    }
described Op.refresh =
    record {
      takes = all_lists;
      tests_state = true;
      brings = nothing;
      from_c = nothing_more;
      numbers = 1;
      establishes = false;
      directly = λ b.
          draws b (of_answer (frame.refresh b.chip b.vram b.map b.frame b.notes)) (frame.draw_map b.chip b.vram b.map b.frame b.notes)
          (frame.refresh_frame b.chip b.vram b.map b.frame b.notes)
          (frame.refresh_notes b.chip b.vram b.map b.frame b.notes);
      through_c = λ block b.
          draws b (of_from_c (c-frames.refresh block b.vram b.map b.frame b.notes)) (c-frames.draw_map block b.vram b.map b.frame b.notes)
          (c-frames.refresh_frame block b.vram b.map b.frame b.notes)
          (c-frames.refresh_notes block b.vram b.map b.frame b.notes);
    }
described (Op.read_snapshot s) =
    record {
      takes = vram_alone;
      tests_state = false;
      brings = record { tests = λ c. snapshot.file_tests s; slices = []; AreBytes = Bytes s };
      from_c = nothing_more;
      numbers = 1;
      establishes = true;
      directly = λ b. replaces b (of_answer (snapshot.read_snapshot b.chip b.vram s)) (snapshot.read_vram b.vram s);
      through_c = λ block b. replaces b (of_from_c (c-snapshots.read_snapshot block b.vram s)) (c-snapshots.read_vram block b.vram s);
    }
described (Op.write_snapshot s) =
    record {
      takes = vram_alone;
      tests_state = true;
      brings = record { tests = λ c. snapshot.output_tests s; slices = s ∷ []; AreBytes = Unit {0} };
      from_c = nothing_more;
      numbers = 1;
      establishes = false;
      directly = λ b. fills b (of_answer (snapshot.write_snapshot b.chip b.vram s)) (snapshot.written b.chip b.vram s ∷ []);
      through_c = λ block b.
          fills b (of_result block (c-snapshots.write_snapshot block b.vram s))
          (c-snapshots.written block b.vram s ∷ []);
    }
described (Op.run_log line log outcome) =
    record {
      takes = vram_and_map;
      tests_state = true;
      brings = record { tests = λ c. logs.run_own_tests line log; slices = line ∷ []; AreBytes = Bytes log };
      from_c = record { tests = slice_test c-logs.outcome_size outcome ∷ []; NumbersFit = λ vram. Bytes vram × Bytes log };
      numbers = 3;
      establishes = false;
      directly = λ b.
          runs b (of_ran (logs.run_log b.chip b.vram b.map line log))
          (logs.run_vram b.chip b.vram b.map line log)
          (logs.run_map b.chip b.vram b.map line log)
          (logs.run_line b.chip b.vram b.map line log ∷ []);
      through_c = λ block b.
          runs b (of_outcome (c-logs.run_log block b.vram b.map line log outcome) (c-logs.run_outcome block b.vram b.map line log outcome))
          (c-logs.run_vram block b.vram b.map line log outcome)
          (c-logs.run_map block b.vram b.map line log outcome)
          (c-logs.run_line block b.vram b.map line log outcome ∷ []);
    }
