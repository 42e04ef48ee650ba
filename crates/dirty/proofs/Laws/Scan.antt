-- A scan that fetches no dirty byte.
use Prim.Native.Nat.{ℕ, zero, suc, ◌+◌, ◌*◌, ◌<◌}
use native.Mathlib.Nat.{add_assoc}
use native.Mathlib.Numerals.{add-one}
use native.Mathlib.Omega.{arith}
use mathlib.Core.Path.{◌≡◌, refl, ap, ap₂, ◌∙◌}
use mathlib.Core.Bool.{Bool, true, false, cond, not, ◌&&◌, ◌||◌}
use mathlib.Core.List.{List}
use borrow.Author.Tests.{eqb-true, eqb-false}
use lib.Bits.{bit_and}
use lib.Dec.{eqb, lit<}
use lib.ListN.{get_or}
use Rattle.chip.specs.Map.{is_dirty}
use Rattle.chip.specs.Modes.{large_sprites}
use Rattle.chip.specs.Ranges.{all_below}
use Rattle.chip.specs.State.{Bytes}
use Rattle.chip.proofs.Laws.Ranges.{and_both}
use Rattle.fetches.specs.Fetch.{fetched, any_dirty}
use Rattle.sprites.specs.Shape.{covers}
use Rattle.sprites.specs.Scan.{attribute_address, sprite_pattern_address, sprite_of}
use Rattle.sprites.proofs.Laws.Bounds.{pattern-place}
use Rattle.sprites.proofs.Laws.Due.{rest_dirty, at-end, at-terminator, not-covering, at-fifth, drawn, sprite-dirty}
use Rattle.sets.specs.Sets.{y_of, before_terminator, IsSet}
use Rattle.dirty.specs.Marks.{attributes_at, patterns_at, CleanPart, Quiet, Marks, scan_dirty}
use Rattle.dirty.proofs.Laws.Joined.{apart}

-- No Y and no pattern is dirty, and nothing else of the sprites before the terminator that cover the line.
module _ (r : List ℕ) (l : ℕ) (vram map : List ℕ) (bytes : Bytes vram) (quiet : Quiet r map) (each : (n : ℕ) → n < 32 → (before_terminator r vram n && covers r l (y_of r vram n)) ≡ true → (k : ℕ) → 0 < k → k < 4 → is_dirty map (attribute_address r n k) ≡ false) where
  pattern-clean : (y name : ℕ) → covers r l y ≡ true → name < 256 → (is_dirty map (sprite_pattern_address r l y name) || large_sprites r && is_dirty map (sprite_pattern_address r l y name + 16)) ≡ false
  unfolding sprite_pattern_address
  pattern-clean y name cov small =
      let place = pattern-place r l y name cov small in
      ap₂ ◌||◌ (quiet.patterns _ (omega arith)) (by (large_sprites r) refl)
    where
      by : (g : Bool) → large_sprites r ≡ g → (g && is_dirty map (sprite_pattern_address r l y name + 16)) ≡ false
      by true large = rw add_assoc (quiet.patterns _ (omega (arith, pattern-place r l y name cov small, ap {B = ℕ} (λ (g : Bool). cond g 16 0) large)))
      by false large = refl

  sprite-clean : (n : ℕ) → n < 32 → before_terminator r vram n ≡ true → covers r l (y_of r vram n) ≡ true → any_dirty map (fetched (sprite_of r l n (y_of r vram n)) vram) ≡ false
  sprite-clean n h before cov =
      let clean = each n h (and_both before cov) in
      sprite-dirty r l vram map n (y_of r vram n)
      ∙ ap₂ ◌||◌ (clean 1 (lit< tt) (lit< tt)) (ap₂ ◌||◌ (clean 2 (lit< tt) (lit< tt)) (ap₂ ◌||◌ (clean 3 (lit< tt) (lit< tt)) (pattern-clean (y_of r vram n) (get_or vram (attribute_address r n 2) 0) cov (bytes _))))

  rest-clean : (left n k : ℕ) → n + left ≡ 32 → all_below n (λ m. not (eqb (y_of r vram m) 208)) ≡ true → rest_dirty r l vram map n k ≡ false
  unfolding before_terminator
  rest-clean zero n k e before = at-end r l vram map n k (omega arith)
  rest-clean (suc left) n k e before = by (λ j. rest-clean left (n + 1) j) (eqb (y_of r vram n) 208) (covers r l (y_of r vram n)) (eqb k 4) refl refl refl
    where
      h : n < 32
      h = omega arith

      y-clean : is_dirty map (attribute_address r n 0) ≡ false
      y-clean = quiet.ys n h

      next : n + 1 + left ≡ 32
      next = omega arith

      also : eqb (y_of r vram n) 208 ≡ false → before_terminator r vram n ≡ true
      also more = and_both before (ap not more)

      by : ((j : ℕ) → n + 1 + left ≡ 32 → all_below (n + 1) (λ m. not (eqb (y_of r vram m) 208)) ≡ true → rest_dirty r l vram map (n + 1) j ≡ false) → (ends cov four : Bool) → eqb (y_of r vram n) 208 ≡ ends → covers r l (y_of r vram n) ≡ cov → eqb k 4 ≡ four → rest_dirty r l vram map n k ≡ false
      by again true cov four e c f = at-terminator r l vram map n k h y-clean e
      by again false false four e c f = not-covering r l vram map n k h y-clean e c ∙ again k next (rw add-one (also e))
      by again false true true e c f = at-fifth r l vram map n k h y-clean e c (eqb-true k 4 f)
      by again false true false e c f = drawn r l vram map n k h y-clean e c (eqb-false k 4 f) ∙ ap₂ ◌||◌ (sprite-clean n h (also e) c) (again (k + 1) next (rw add-one (also e)))

  pub scan-clean : scan_dirty r vram map l ≡ false
  scan-clean = rest-clean 32 0 0 refl refl

-- the marks say so of the sprites of the line's set
pub unmarked : (r : List ℕ) (l : ℕ) (vram map : List ℕ) (set marks : ℕ) → Bytes vram → Quiet r map → IsSet r vram l set → Marks map (attributes_at r) marks → bit_and set marks ≡ 0 → scan_dirty r vram map l ≡ false
unmarked r l vram map set marks bytes quiet is marked none =
    scan-clean r l vram map bytes quiet (λ n h drawn k some low. marked n k h some low (apart n set marks none (is n h ∙ drawn)))

-- both tables are clear
pub all-clear : (r : List ℕ) (l : ℕ) (vram map : List ℕ) → Bytes vram → CleanPart map (attributes_at r) 128 → CleanPart map (patterns_at r) 2048 → scan_dirty r vram map l ≡ false
all-clear r l vram map bytes attributes patterns =
    scan-clean r l vram map bytes (record { ys = λ n h. attributes (4 * n + 0) (omega arith); patterns = patterns }) (λ n h drawn k some low. attributes (4 * n + k) (omega arith))
