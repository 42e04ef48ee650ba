-- The snapshot of a state and VRAM: where its parts stand, and that reading accepts it.
use Rattle.std.proofs.Common.{◌≡◌, ℕ, ◌+◌, true, List, ◌++◌, length, get_or, take, sym, ap, ◌∙◌, append_assoc, length-append, take_at, get_or-append-add, drop_at, eq-eqb}
use Rattle.chip.specs.State.{well_formed}
use Rattle.chip.specs.TwoBytes.{low_first, low_first_at}
use Rattle.chip.specs.Layout.{encoded, decoded}
use Rattle.chip.specs.declared.state.Chip.{Chip}
use Rattle.chip.proofs.Laws.TwoBytes.{low-first-is}
use Rattle.chip.proofs.Laws.Layout.{length-encoded, well-formed-encoded}
use Rattle.snapshot.specs.Format.{pointers, checksum, summed, trailer_of, snapshot_of}
use Rattle.snapshot.specs.Tests.{state_bytes, vram_bytes, points_back, sum_right}
use Rattle.snapshot.proofs.Laws.Parts.{regroup, before-trailer, before-sum}
use Rattle.snapshot.proofs.Laws.Refusals.{Readable}

module _ (c : Chip) (eight : length c.registers ≡ 8) (vram : List ℕ) (long : length vram ≡ 16384) where
  abbrev file : List ℕ
  file = snapshot_of c vram

  abbrev total : ℕ
  total = checksum (summed c vram)

  pub length-snapshot : length file ≡ 16406
  unfolding snapshot_of
  length-snapshot = rw (length-append vram, length-append (encoded c), long, length-encoded c eight)

  -- the trailer stands at 16,398
  tail : (k : ℕ) → get_or file (16398 + k) 0 ≡ get_or (trailer_of c vram) k 0
  unfolding snapshot_of
  tail k =
      ap (λ (l : List ℕ). get_or l (16398 + k) 0) (sym (append_assoc vram (encoded c) (trailer_of c vram)))
      ∙ ap (λ (n : ℕ). get_or ((vram ++ encoded c) ++ trailer_of c vram) (n + k) 0) (sym (before-trailer c eight vram long))
      ∙ get_or-append-add (vram ++ encoded c) (trailer_of c vram) k 0

  summed-back : take 16404 file ≡ summed c vram
  unfolding snapshot_of
  summed-back =
      ap (take 16404) (sym (regroup vram (encoded c) pointers (low_first total)))
      ∙ take_at ((vram ++ encoded c) ++ pointers) (low_first total) 16404 (before-sum c eight vram long)
      ∙ append_assoc vram (encoded c) pointers

  pub state-back : state_bytes file ≡ encoded c
  unfolding snapshot_of state_bytes
  state-back = rw length-snapshot (ap (take 14) (drop_at vram (encoded c ++ trailer_of c vram) 16384 long) ∙ take_at (encoded c) (trailer_of c vram) 14 (length-encoded c eight))

  pub vram-back : vram_bytes file ≡ vram
  unfolding snapshot_of vram_bytes
  vram-back = rw length-snapshot (take_at vram (encoded c ++ trailer_of c vram) 16384 long)

  points : points_back file ≡ true
  unfolding points_back
  points = rw (length-snapshot, tail 0, tail 1, tail 2, tail 3, tail 4, tail 5)

  sums : sum_right file ≡ true
  unfolding sum_right
  sums = rw length-snapshot
      (eq-eqb (low_first_at file 16404) (checksum (take 16404 file))
      (low-first-is file 16404 total (tail 6) (tail 7) ∙ sym (ap checksum summed-back)))

  pub readable : well_formed c ≡ true → (old : List ℕ) → length old ≡ 16384 → Readable old file
  readable ok old room =
      record {
        room = room;
        whole = length-snapshot;
        points = points;
        total = sums;
        holds = ap (λ (b : List ℕ). well_formed (decoded b true 0)) state-back ∙ well-formed-encoded c eight true 0 ∙ ok;
      }
