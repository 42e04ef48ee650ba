-- A file that reading accepts: it is the snapshot of what it holds.
use Rattle.std.proofs.Common.{◌≡◌, ℕ, ◌+◌, ◌-◌, Bool, true, ◌&&◌, eqb, List, [], ◌∷◌, ◌++◌, get_or, take, drop, sym, ap, ◌∙◌, ap₂, append_assoc, arith, length-drop, take-append-drop, get_or-drop, take_all, take-add, eqb-true}
use Rattle.chip.specs.State.{Bytes}
use Rattle.chip.specs.TwoBytes.{low_first, low_first_at}
use Rattle.chip.specs.Layout.{encoded}
use Rattle.chip.specs.declared.state.Chip.{Chip}
use Rattle.chip.specs.Lists.{tabulate}
use Rattle.chip.proofs.Laws.Lists.{take-tabulate, listed}
use Rattle.chip.proofs.Laws.Ranges.{and_left, and_right}
use Rattle.chip.proofs.Laws.TwoBytes.{low-first-back}
use Rattle.chip.proofs.Laws.Layout.{encoded-decoded}
use Rattle.snapshot.specs.Format.{pointers, checksum, snapshot_of}
use Rattle.snapshot.specs.Tests.{trailer_at, state_bytes, vram_bytes, held_state, points_back, sum_right}
use Rattle.snapshot.proofs.Laws.Bytes.{bytes-part}
use Rattle.snapshot.proofs.Laws.Parts.{regroup, length-state}
use Rattle.snapshot.proofs.Laws.Refusals.{Readable}

-- four tests that hold together
all-four : (a b c d : Bool) → (a && b && c && d) ≡ true → (a ≡ true) × (b ≡ true) × (c ≡ true) × (d ≡ true)
all-four a b c d e =
    let abc = and_left (a && b && c) d e in
    let ab = and_left (a && b) c abc in
    (and_left a b ab, and_right a b ab, and_right (a && b) c abc, and_right (a && b && c) d e)

module _ (file : List ℕ) (bytes : Bytes file) {old : List ℕ} (r : Readable old file) where
  abbrev at : ℕ → ℕ
  at k = get_or file k 0

  -- the state that the file holds
  abbrev held : Chip
  held = held_state file

  state-kept : encoded held ≡ state_bytes file
  unfolding state_bytes
  state-kept =
      let long = length-state file r.whole in
      encoded-decoded (state_bytes file) (bytes-part (trailer_at file - 14) 14 file bytes) true 0 r.holds (omega arith)
      ∙ take_all 14 (state_bytes file) (omega arith)

  -- the signature and the distances are the trailer's first six bytes
  pointers-kept : take 6 (drop 16398 file) ≡ pointers
  unfolding points_back tabulate
  pointers-kept =
      let q = all-four (eqb (at 16398) 0x56) (eqb (at 16399) 0x31) (eqb (low_first_at file 16400) 14) (eqb (low_first_at file 16402) 16398) (rw r.whole at r.points) in
      let block = eqb-true (low_first_at file 16400) 14 q.2 in
      let vram = eqb-true (low_first_at file 16402) 16398 q.3 in
      let b₀ = eqb-true (at 16398) 0x56 q.0 in
      let b₁ = eqb-true (at 16399) 0x31 q.1 in
      let b₂ : at 16400 ≡ 14 = omega (arith, bytes 16400, bytes 16401) in
      let b₃ : at 16401 ≡ 0 = omega (arith, bytes 16400, bytes 16401) in
      let b₄ : at 16402 ≡ 14 = omega (arith, bytes 16402, bytes 16403) in
      let b₅ : at 16403 ≡ 64 = omega (arith, bytes 16402, bytes 16403) in
      let there : (k : ℕ) → get_or (drop 16398 file) k 0 ≡ at (16398 + k) = λ k. get_or-drop 16398 file k 0 in
      take-tabulate 6 (drop 16398 file) (rw length-drop (omega arith))
      ∙ (λ i. (there 0 ∙ b₀) i ∷ (there 1 ∙ b₁) i ∷ (there 2 ∙ b₂) i ∷ (there 3 ∙ b₃) i ∷ (there 4 ∙ b₄) i ∷ (there 5 ∙ b₅) i ∷ [])

  -- all that stands before the sum
  front_kept : take 16404 file ≡ (vram_bytes file ++ state_bytes file) ++ pointers
  unfolding state_bytes vram_bytes
  front_kept =
      let vram : vram_bytes file ≡ take 16384 file = ap (λ (n : ℕ). take 16384 (drop (n - 8 - 16398) file)) r.whole in
      let state : state_bytes file ≡ take 14 (drop 16384 file) = ap (λ (n : ℕ). take 14 (drop (n - 8 - 14) file)) r.whole in
      take-add 16398 6 file
      ∙ ap₂ ◌++◌ (take-add 16384 14 file ∙ sym (ap₂ ◌++◌ vram state)) pointers-kept

  sum_kept : low_first (checksum (take 16404 file)) ≡ drop 16404 file
  unfolding sum_right tabulate
  sum_kept =
      let total = eqb-true (low_first_at file 16404) (checksum (take 16404 file)) (rw r.whole at r.total) in
      ap low_first (sym total)
      ∙ low-first-back file bytes 16404
      ∙ (λ i. sym (get_or-drop 16404 file 0 0) i ∷ sym (get_or-drop 16404 file 1 0) i ∷ [])
      ∙ sym (listed 2 (drop 16404 file) (rw length-drop (omega arith)))

  pub file-back : snapshot_of held (vram_bytes file) ≡ file
  unfolding snapshot_of
  file-back =
      let v = vram_bytes file in
      ap (λ (b : List ℕ). v ++ (b ++ (pointers ++ low_first (checksum (v ++ (b ++ pointers)))))) state-kept
      ∙ ap (λ (l : List ℕ). v ++ (state_bytes file ++ (pointers ++ low_first (checksum l)))) (sym (append_assoc v (state_bytes file) pointers))
      ∙ sym (regroup v (state_bytes file) pointers _)
      ∙ ap (λ (l : List ℕ). l ++ low_first (checksum l)) (sym front_kept)
      ∙ ap (λ (l : List ℕ). take 16404 file ++ l) sum_kept
      ∙ take-append-drop 16404 file
