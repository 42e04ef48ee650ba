-- When writing and reading are accepted: each test passes.
use Rattle.std.proofs.Common.{◌≡◌, ℕ, true, List, length, ap, eq-eqb, eqb-true}
use Rattle.chip.specs.State.{well_formed}
use Rattle.chip.specs.Refusals.{is_accepted}
use Rattle.chip.specs.declared.state.Chip.{Chip}
use Rattle.std.specs.Prelude.{Ok}
use Rattle.chip.proofs.Laws.Refusals.{all_pass, all-accepted}
use Rattle.snapshot.specs.Tests.{held_state, points_back, sum_right}
use Rattle.snapshot.specs.Calls.{write_tests, write_refusal, read_tests, read_refusal}

-- What the tests of reading show of VRAM and of the file.
pub record Readable (vram s : List ℕ) : Type 0 where
  pub room : length vram ≡ 16384
  pub whole : length s ≡ 16406
  pub points : points_back s ≡ true
  pub total : sum_right s ≡ true
  pub holds : well_formed (held_state s) ≡ true

pub write-accepted : (c : Chip) (vram out : List ℕ) → length vram ≡ 16384 → length out ≡ 16406 → well_formed c ≡ true → write_refusal c vram out ≡ Ok tt
write-accepted c vram out hv ho ok = all-accepted (write_tests c vram out) (eq-eqb _ _ hv, (ok, (eq-eqb _ _ ho, tt)))

pub read-accepted : (vram s : List ℕ) → Readable vram s → read_refusal vram s ≡ Ok tt
read-accepted vram s r = all-accepted (read_tests vram s) (eq-eqb _ _ r.room, (eq-eqb _ _ r.whole, (r.points, (r.total, (r.holds, tt)))))

pub accepted-readable : (vram s : List ℕ) → read_refusal vram s ≡ Ok tt → Readable vram s
accepted-readable vram s e =
    let p = all_pass (read_tests vram s) (ap is_accepted e) in
    record {
      room = eqb-true (length vram) 16384 p.0;
      whole = eqb-true (length s) 16406 p.1.0;
      points = p.1.1.0;
      total = p.1.1.1.0;
      holds = p.1.1.1.1.0;
    }
