-- What the tests of a run decide.
use Prim.Native.Nat.{ℕ}
use mathlib.Core.Path.{◌≡◌, ap, ◌∙◌}
use mathlib.Core.Bool.{true}
use mathlib.Core.List.{List, ◌∷◌}
use lib.ListN.{length}
use borrow.Author.Tests.{eqb-true, eq-eqb}
use Rattle.chip.specs.Map.{map_size}
use Rattle.chip.specs.State.{Bytes, Fits, well_formed}
use Rattle.chip.specs.Refusals.{vram_test, slice_test, state_test, refusal_of, is_accepted}
use Rattle.chip.specs.declared.state.Chip.{Chip}
use Rattle.std.specs.Prelude.{Ok}
use Rattle.chip.proofs.Laws.Refusals.{passed, AllPass, all_pass}
use Rattle.scanline.specs.Calls.{line_size}
use Rattle.port_log.specs.Tests.{log_tests}
use Rattle.port_log.specs.Single.{target}
use Rattle.port_log.specs.Run.{run_own_tests, run_tests, run_refusal}
use Rattle.port_log.proofs.Laws.Refusals.{Good}
use Rattle.port_log.proofs.Laws.Sound.{Sound}

module _ (c : Chip) (vram map line log : List ℕ) where
  -- Where state and lent slices pass, the log decides.
  pub log-decides : length vram ≡ 16384 → length map ≡ 2048 → length line ≡ 256 → well_formed c ≡ true → run_refusal c vram map line log ≡ refusal_of (log_tests log)
  log-decides full mapped wide formed =
      passed (vram_test vram) (slice_test map_size map ∷ state_test c ∷ run_own_tests line log) (eq-eqb _ _ full)
      ∙ passed (slice_test map_size map) (state_test c ∷ run_own_tests line log) (eq-eqb _ _ mapped)
      ∙ passed (state_test c) (run_own_tests line log) formed
      ∙ passed (slice_test line_size line) (log_tests log) (eq-eqb _ _ wide)

  -- An accepted run has a sound target and a good log.
  module _ (ok : run_refusal c vram map line log ≡ Ok tt) where
    pass : AllPass (run_tests c vram map line log)
    pass = all_pass (run_tests c vram map line log) (ap is_accepted ok)

    pub accepted-sound : Fits c → Bytes vram → Sound (target c vram map line)
    accepted-sound fits bytes =
        record {
          ready = record { fits = fits; well-formed = pass.1.1.0 };
          bytes = bytes;
          vram = eqb-true _ _ pass.0;
          map = eqb-true _ _ pass.1.0;
          line = eqb-true _ _ pass.1.1.1.0;
        }

    pub accepted-log : Good log
    accepted-log =
        let own = pass.1.1.1.1 in
        record { size = own.0; distance = own.1.0; total = own.1.1.0; records = own.1.1.1.0 }
