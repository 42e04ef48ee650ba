-- Every byte that the scan of a line fetches lies within VRAM.
use Rattle.std.proofs.Common.{◌≡◌, ℕ, zero, suc, ◌+◌, ◌<◌, ◌≤◌, true, eqb, List, arith, lit<}
use Rattle.chip.specs.Modes.{large_sprites}
use Rattle.chip.specs.State.{vram_size, masked}
use Rattle.fetches.specs.Fetch.{Fetch}
use Rattle.fetches.proofs.Within.{Within, within-either, within-followed}
use Rattle.sprites.specs.Shape.{covers}
use Rattle.sprites.specs.Scan.{sprite_of, Found, seen, scan_from, scan_of}
use Rattle.sprites.proofs.Laws.Bounds.{attribute-inside, pattern-inside}

module _ (r : List ℕ) (ok : masked r ≡ true) (l : ℕ) where
  sprite-within : (n y : ℕ) → n < 32 → covers r l y ≡ true → Within vram_size (sprite_of r l n y)
  unfolding Within sprite_of
  sprite-within n y hn cov = (
    attribute-inside r ok n 1 hn (lit< tt),
    λ _ _. (
      attribute-inside r ok n 2 hn (lit< tt),
      λ name small. (
        attribute-inside r ok n 3 hn (lit< tt),
        λ _ _. (
          omega (arith, pattern-inside r ok l y name cov small),
          λ _ _. within-either vram_size (large_sprites r) _ _ (λ large. (rw large at (pattern-inside r ok l y name cov small), λ _ _. tt)) (λ _. tt),
        ),
      ),
    ),
  )

  -- in each case of sprite n
  seen-within : (n k y : ℕ) (next : ℕ → Fetch Found) → n < 32 → ((j : ℕ) → Within vram_size (next j)) → Within vram_size (seen r l n k y next)
  unfolding Within
  seen-within n k y next hn w =
      within-either vram_size (eqb y 208) _ _ (λ _. tt)
      (λ _. within-either vram_size (covers r l y) _ _
      (λ cov. within-either vram_size (eqb k 4) _ _ (λ _. tt) (λ _. within-followed vram_size (sprite_of r l n y) _ (sprite-within n y hn cov) (λ s. within-followed vram_size (next (suc k)) _ (w (suc k)) (λ f. tt))))
      (λ _. w k))

  from : (left n k : ℕ) → n + left ≤ 32 → Within vram_size (scan_from r l left n k)
  unfolding Within scan_from
  from zero n k h = tt
  from (suc left) n k h =
      let hn : n < 32 = omega arith in
      let later : suc n + left ≤ 32 = omega arith in
      (attribute-inside r ok n 0 hn (lit< tt), λ y _. seen-within n k y (scan_from r l left (suc n)) hn (λ j. from left (suc n) j later))

  pub scan-within : Within vram_size (scan_of r l)
  scan-within = from 32 0 0 (omega arith)
