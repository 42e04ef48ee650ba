-- A good log of bytes: it is the log of its record bytes.
use Prim.Native.Nat.{ℕ, ◌+◌}
use native.Mathlib.Omega.{arith}
use mathlib.Core.Path.{◌≡◌, sym, ap, ap₂, ◌∙◌}
use mathlib.Core.List.{List, [], ◌∷◌, ◌++◌}
use lib.ListN.{length, get_or, drop, length-drop, take-append-drop}
use lib.Seq.{get_or-drop}
use borrow.Author.Tests.{eqb-true}
use Rattle.chip.specs.State.{Bytes}
use Rattle.chip.specs.Lists.{tabulate}
use Rattle.chip.proofs.Laws.Lists.{listed}
use Rattle.chip.specs.TwoBytes.{low_first, low_first_at}
use Rattle.chip.proofs.Laws.TwoBytes.{low-first-back}
use Rattle.snapshot.specs.Format.{checksum}
use Rattle.port_log.specs.Format.{log_trailer_of, log_of, log_trailer_at, record_bytes}
use Rattle.port_log.specs.Tests.{distance_right, log_sum_right}
use Rattle.port_log.proofs.Laws.Form.{sized, length-record-bytes}
use Rattle.port_log.proofs.Laws.Refusals.{Good}

module _ (log : List ℕ) (bytes : Bytes log) (g : Good log) where
  abbrev n : ℕ
  n = log_trailer_at log

  abbrev at : ℕ → ℕ
  at k = get_or log k 0

  there : (k : ℕ) {m : ℕ} → m ≡ n + k → at m ≡ get_or (drop n log) k 0
  there k e = ap at e ∙ sym (get_or-drop n log k 0)

  trailer-kept : log_trailer_of (record_bytes log) ≡ drop n log
  unfolding distance_right log_sum_right tabulate
  trailer-kept =
      let s = sized (length log) g.size in
      let distance = eqb-true (low_first_at log n) n g.distance in
      let sum = eqb-true (low_first_at log (n + 2)) (checksum (record_bytes log)) g.total in
      ap₂ (λ (m t : ℕ). low_first m ++ low_first t) (length-record-bytes log ∙ sym distance) (sym sum)
      ∙ ap₂ ◌++◌ (low-first-back log bytes n) (low-first-back log bytes (n + 2))
      ∙ (λ i. there 0 {m = n} (omega arith) i ∷ there 1 {m = n + 1} (omega arith) i ∷ there 2 {m = n + 2} (omega arith) i ∷ there 3 {m = n + 2 + 1} (omega arith) i ∷ [])
      ∙ sym (listed 4 (drop n log) (rw length-drop (omega arith)))

  pub log_back : log_of (record_bytes log) ≡ log
  unfolding log_of record_bytes
  log_back = ap (λ (l : List ℕ). record_bytes log ++ l) trailer-kept ∙ take-append-drop n log
