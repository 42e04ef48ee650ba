-- Every address of a sprite is below 16,384: it is a place within its table.
use Rattle.std.proofs.Common.{◌≡◌, ℕ, ◌+◌, ◌-◌, ◌*◌, ◌%◌, ◌<◌, ◌≤◌, Bool, true, false, cond, List, arith, lit<, ltb-true}
use Rattle.chip.specs.Modes.{large_sprites, magnified}
use Rattle.chip.specs.State.{vram_size, register, masked}
use Rattle.chip.specs.Tables.{attributes, sprite_patterns}
use Rattle.chip.specs.declared.mode.Mode.TheVariants.{GraphicsI}
use Rattle.chip.proofs.Laws.Tables.{at-most-mask, inside}
use Rattle.sprites.specs.Shape.{scaled, row_offset, covers}
use Rattle.sprites.specs.Scan.{attribute_address, sprite_pattern_address}

-- the attribute table's register
pub attributes-low : (r : List ℕ) → masked r ≡ true → register 5 r < 128
attributes-low r ok = omega (arith, at-most-mask r ok 5 (lit< tt))

pub attribute-inside : (r : List ℕ) → masked r ≡ true → (n k : ℕ) → n < 32 → k < 4 → attribute_address r n k < vram_size
attribute-inside r ok n k hn hk = inside GraphicsI attributes r ok _ (omega arith)

-- a row of a sprite that covers the line is one of its 8 or 16
pub row_small : (g m : Bool) (o : ℕ) → o < cond g 16 8 * cond m 2 1 → scaled m o < cond g 16 8
row_small true true o h = omega arith
row_small true false o h = omega arith
row_small false true o h = omega arith
row_small false false o h = omega arith

-- a name's bytes, with those of the right half
name-small : (g : Bool) (name : ℕ) → name < 256 → 8 * (name - cond g (name % 4) 0) + cond g 16 8 + cond g 16 0 ≤ 2048
name-small true name h = omega arith
name-small false name h = omega arith

-- a pattern byte of a sprite that covers the line, and the right half's, are among the table's 2,048
pub pattern-place : (r : List ℕ) (l y name : ℕ) → covers r l y ≡ true → name < 256 → 8 * (name - cond (large_sprites r) (name % 4) 0) + scaled (magnified r) (row_offset l y) + cond (large_sprites r) 16 0 < 2048
pattern-place r l y name cov hn =
    let row = row_small (large_sprites r) (magnified r) (row_offset l y) (ltb-true _ _ cov) in
    omega (arith, name-small (large_sprites r) name hn)

pub pattern-inside : (r : List ℕ) → masked r ≡ true → (l y name : ℕ) → covers r l y ≡ true → name < 256 → sprite_pattern_address r l y name + cond (large_sprites r) 16 0 < vram_size
unfolding sprite_pattern_address
pattern-inside r ok l y name cov hn = omega (arith, inside GraphicsI sprite_patterns r ok _ (pattern-place r l y name cov hn))

-- where a sprite's bytes stand
pub ruleset addresses = (attributes-low, pattern-inside)
