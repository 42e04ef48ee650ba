-- What holds of all that a scan finds: of how it ends, and of one sprite more in front.
use Rattle.std.proofs.Common.{ℕ, zero, suc, ◌+◌, ◌<◌, ◌≤◌, Bool, true, false, cond, eqb, List, [], get_or, arith}
use Rattle.fetches.specs.Fetch.{Fetch, answer, value, followed}
use Rattle.fetches.proofs.Laws.{value-followed}
use Rattle.sprites.specs.Shape.{covers}
use Rattle.sprites.specs.Scan.{attribute_address, sprite_of, Found, found, scan_from, scan_of, fifth_of}
use Rattle.sprites.specs.declared.scan.Ended.{Ended}
use Rattle.sprites.specs.declared.scan.Ended.TheVariants.{Terminator, Fifth, All}

module _ (r : List ℕ) (l : ℕ) (m : List ℕ) (P : Found → Type 0) (ends : (e : Ended) → fifth_of e ≤ 32 → P (record { sprites = []; ended = e })) (one_more : (n y : ℕ) → n < 32 → (f : Found) → P f → P (found (value (sprite_of r l n y) m) f)) where
  -- in each case of sprite n
  ways : (a b c : Bool) (n k y : ℕ) (next : ℕ → Fetch Found) → n < 32 → ((j : ℕ) → P (value (next j) m)) → P (value (cond a (answer (record { sprites = []; ended = Terminator })) (cond b (cond c (answer (record { sprites = []; ended = Fifth n })) (followed (sprite_of r l n y) λ s. followed (next (suc k)) λ f. answer (found s f))) (next k))) m)
  unfolding value
  ways true b c n k y next h rest = ends Terminator (omega arith)
  ways false false c n k y next h rest = rest k
  ways false true true n k y next h rest = ends (Fifth n) (omega arith)
  ways false true false n k y next h rest =
      rw (value-followed (sprite_of r l n y) (λ s. followed (next (suc k)) λ f. answer (found s f)) m, value-followed (next (suc k)) (λ f. answer (found (value (sprite_of r l n y) m) f)) m)
      (one_more n y h (value (next (suc k)) m) (rest (suc k)))

  from : (left n k : ℕ) → n + left ≤ 32 → P (value (scan_from r l left n k) m)
  unfolding value scan_from
  from zero n k h = ends All (omega arith)
  from (suc left) n k h =
      let y = get_or m (attribute_address r n 0) 0 in
      let now : n < 32 = omega arith in
      let later : suc n + left ≤ 32 = omega arith in
      ways (eqb y 208) (covers r l y) (eqb k 4) n k y (scan_from r l left (suc n)) now (λ j. from left (suc n) j later)

  pub scan-finds : P (value (scan_of r l) m)
  scan-finds = from 32 0 0 (omega arith)
