-- A sprite's columns.
use Rattle.std.proofs.Common.{◌≡◌, ℕ, ◌+◌, ◌-◌, ◌*◌, ◌<◌, ◌≤◌, Bool, true, false, cond, ltb, leb, List, arith, ltb-true, le-ltb, lt-ltb, le-leb, leb-true}
use borrow.Author.Tests.{lt-leb}
use Rattle.chip.specs.Bits.{bit}
use Rattle.chip.specs.Modes.{large_sprites, magnified}
use Rattle.chip.proofs.Laws.Ranges.{and-false, and_left, and_right}
use Rattle.sprites.specs.Shape.{side, scaled}
use Rattle.sprites.specs.Pixels.{hits}
use Rattle.sprites.specs.declared.sprite.Sprite.{Sprite}
use Rattle.sprites.proofs.Laws.Bounds.{row_small}

sides : (g m : Bool) → cond g 16 8 * cond m 2 1 ≤ 32
sides true true = omega arith
sides true false = omega arith
sides false true = omega arith
sides false false = omega arith

pub side-small : (r : List ℕ) → side r ≤ 32
side-small r = sides (large_sprites r) (magnified r)

-- a row has at most 16 bits
pub halves : (g : Bool) → cond g 16 8 ≤ 16
halves true = omega arith
halves false = omega arith

module _ (r : List ℕ) (s : Sprite) (c : ℕ) where
  pub hits-left : c < s.first → hits r s c ≡ false
  unfolding hits
  hits-left h = rw (lt-leb _ _ h)

  pub hits-right : s.first + side r ≤ c → hits r s c ≡ false
  unfolding hits
  hits-right h = rw (le-ltb _ _ h, and-false)

  -- where it has a set bit
  pub hit-low : hits r s c ≡ true → s.first ≤ c
  unfolding hits
  hit-low e = leb-true _ _ (and_left (leb s.first c) _ e)

  pub hit-high : hits r s c ≡ true → c < s.first + side r
  unfolding hits
  hit-high e = ltb-true _ _ (and_left (ltb c (s.first + side r)) _ (and_right (leb s.first c) _ e))

  module _ (low : s.first ≤ c) (high : c < s.first + side r) where
    pub hits-in : hits r s c ≡ bit (15 - scaled (magnified r) (c - s.first)) s.bits
    unfolding hits
    hits-in = rw (le-leb _ _ low, lt-ltb _ _ high)

    pub bit-small : scaled (magnified r) (c - s.first) < 16
    bit-small = omega (arith, halves (large_sprites r), row_small (large_sprites r) (magnified r) (c - s.first) (omega arith))

pub ruleset columns = (hits-left, hits-right, hits-in)
