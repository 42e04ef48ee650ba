-- What the lines of a row of names fetch, one table at a time.
use Prim.Native.Nat.{ℕ, zero, suc, ◌+◌, ◌*◌, ◌/◌, ◌%◌, ◌<◌}
use native.Mathlib.Nat.{add-zero, add-suc, suc-add, zero-add, not-suc-le-zero}
use native.Mathlib.Omega.{arith}
use mathlib.Core.Path.{◌≡◌, refl, sym, ap, ap₂, ◌∙◌}
use mathlib.Core.Bool.{Bool, false, ◌||◌}
use mathlib.Core.List.{List}
use lib.ListN.{get_or}
use Rattle.chip.specs.Map.{is_dirty}
use Rattle.chip.specs.Ranges.{any_below}
use Rattle.chip.specs.State.{Bytes}
use Rattle.chip.specs.Tables.{names, patterns, colours, base}
use Rattle.chip.specs.declared.mode.Mode.{Mode}
use Rattle.chip.specs.declared.mode.Mode.TheVariants.{Blank, GraphicsI, GraphicsII, Multicolor, Text}
use Rattle.chip.proofs.Laws.Ranges.{or-false, none-holds, any-first, any_same, any-or, any-fails}
use Rattle.fetches.specs.Fetch.{Fetch, fetched, each, any_dirty}
use Rattle.fetches.proofs.Laws.{fetched-each, dirty-append}
use Rattle.planes.specs.Cells.{cells_in, name_address, pattern_address, colour_address, shape_of, cell_of, plane_of}
use Rattle.dirty.specs.declared.tables.Table.{Table}
use Rattle.dirty.specs.declared.tables.Table.TheVariants.{Patterns, Colours}
use Rattle.dirty.specs.Tables.{table_of, cells_dirty}
use Rattle.dirty.specs.Plane.{table_dirty, names_dirty, patterns_dirty, colour_dirty, colours_dirty, third_of, byte_shown}

-- one of a row of descriptions fetches a dirty byte
module _ {A : Type 0} (f : ℕ → Fetch A) (map m : List ℕ) where
  dirty-each : (i n : ℕ) → any_dirty map (fetched (each i n f) m) ≡ any_below n (λ k. any_dirty map (fetched (f (i + k)) m))
  unfolding any_below each fetched
  dirty-each i zero = refl
  dirty-each i (suc n) =
      ap (any_dirty map) (fetched-each f m i n)
      ∙ dirty-append map (fetched (f i) m) (fetched (each (suc i) n f) m)
      ∙ ap₂ (λ (j : ℕ) (b : Bool). any_dirty map (fetched (f j) m) || b) (sym (add-zero i))
      (dirty-each (suc i) n ∙ any_same n (λ k. any_dirty map (fetched (f (suc i + k)) m)) (λ k. any_dirty map (fetched (f (i + suc k)) m)) (λ k h. ap (λ (j : ℕ). any_dirty map (fetched (f j) m)) (suc-add i k ∙ sym (add-suc i k))))
      ∙ sym (any-first n (λ k. any_dirty map (fetched (f (i + k)) m)))

-- the lines of a row of names
pub row_of : (row k : ℕ) → k < 8 → (8 * row + k) / 8 ≡ row
row_of row k h = omega arith

module _ (r : List ℕ) where
  -- Where names stand: the eight lines of a row show the same, from first on.
  pub name-at : (m : Mode) (row first k : ℕ) → first ≡ base m names r + row * cells_in m → k < 8 → (i : ℕ) → name_address m r (8 * row + k) i ≡ first + i
  unfolding name_address
  name-at m row first k e h i = ap (λ (j : ℕ). base m names r + (j * cells_in m + i)) (row_of row k h) ∙ omega arith

  -- a name's pattern bytes have their bits in one byte of the map
  pub pattern-at : (m : Mode) (a row k name i : ℕ) → k < 8 → i < cells_in m → 8 * a ≡ base m patterns r → pattern_address m r (8 * row + k) name ≡ 8 * (a + third_of m row + name) + byte_shown m (8 * row + k)
  unfolding pattern_address
  pattern-at Blank a row k name i h hi e = absurd (not-suc-le-zero hi)
  pattern-at GraphicsI a row k name i h hi e = omega arith
  pattern-at GraphicsII a row k name i h hi e = omega arith
  pattern-at Multicolor a row k name i h hi e = omega arith
  pattern-at Text a row k name i h hi e = omega arith

  -- so have its bytes of colours in Graphics II
  pub colour-at : (a row k name : ℕ) → k < 8 → 8 * a ≡ base GraphicsII colours r → colour_address GraphicsII r (8 * row + k) name ≡ 8 * (a + row / 8 * 256 + name) + k
  unfolding colour_address
  colour-at a row k name h e = omega arith

module _ (r vram map : List ℕ) where
  -- what is fetched for a name
  shape-dirty : (m : Mode) (l name i : ℕ) → i < cells_in m → any_dirty map (fetched (shape_of m r l name) vram) ≡ (is_dirty map (pattern_address m r l name) || colour_dirty m r map l name)
  unfolding shape_of fetched
  shape-dirty Blank l name i h = absurd (not-suc-le-zero h)
  shape-dirty GraphicsI l name i h = ap (λ (b : Bool). is_dirty map (pattern_address GraphicsI r l name) || b) (or-false _)
  shape-dirty GraphicsII l name i h = ap (λ (b : Bool). is_dirty map (pattern_address GraphicsII r l name) || b) (or-false _)
  shape-dirty Multicolor l name i h = refl
  shape-dirty Text l name i h = refl

  cell-dirty : (m : Mode) (l i : ℕ) → i < cells_in m → any_dirty map (fetched (cell_of m r l i) vram) ≡ (is_dirty map (name_address m r l i) || (is_dirty map (pattern_address m r l (get_or vram (name_address m r l i) 0)) || colour_dirty m r map l (get_or vram (name_address m r l i) 0)))
  unfolding cell_of fetched
  cell-dirty m l i h = ap (λ (b : Bool). is_dirty map (name_address m r l i) || b) (shape-dirty m l (get_or vram (name_address m r l i) 0) i h)

  -- A line fetches a dirty byte from one of the three tables.
  pub plane-dirty : (m : Mode) (l : ℕ) → any_dirty map (fetched (plane_of m r l) vram) ≡ (names_dirty m r map l || (patterns_dirty m r vram map l || colours_dirty m r vram map l))
  plane-dirty m l =
      let name : ℕ → ℕ = λ i. get_or vram (name_address m r l i) 0 in
      let n : ℕ → Bool = λ i. is_dirty map (name_address m r l i) in
      let p : ℕ → Bool = λ i. is_dirty map (pattern_address m r l (name i)) in
      let k : ℕ → Bool = λ i. colour_dirty m r map l (name i) in
      dirty-each (cell_of m r l) map vram 0 (cells_in m)
      ∙ any_same (cells_in m) (λ i. any_dirty map (fetched (cell_of m r l (0 + i)) vram)) (λ i. n i || (p i || k i))
      (λ i h. ap (λ (j : ℕ). any_dirty map (fetched (cell_of m r l j) vram)) (zero-add i) ∙ cell-dirty m l i h)
      ∙ any-or (cells_in m) n (λ i. p i || k i)
      ∙ ap (λ (b : Bool). any_below (cells_in m) n || b) (any-or (cells_in m) p k)

  -- from the names, as code has told
  pub told_names : (m : Mode) (l : ℕ) {told : Bool} → told ≡ names_dirty m r map l → any_dirty map (fetched (plane_of m r l) vram) ≡ (told || (patterns_dirty m r vram map l || colours_dirty m r vram map l))
  told_names m l e = plane-dirty m l ∙ ap (λ (b : Bool). b || (patterns_dirty m r vram map l || colours_dirty m r vram map l)) (sym e)

  module _ (bytes : Bytes vram) (l : ℕ) (low : l < 192) where
    -- a table without a dirty byte has none for a line's names
    pub no-pattern : (m : Mode) → table_dirty m patterns r map ≡ false → patterns_dirty m r vram map l ≡ false
    unfolding pattern_address
    no-pattern m none = none-holds (cells_in m) (λ i. is_dirty map (pattern_address m r l (get_or vram (name_address m r l i) 0))) (λ i h. by m none i h (get_or vram (name_address m r l i) 0) (bytes (name_address m r l i)))
      where
        by : (m : Mode) → table_dirty m patterns r map ≡ false → (i : ℕ) → i < cells_in m → (name : ℕ) → name < 256 → is_dirty map (pattern_address m r l name) ≡ false
        by Blank none i h name hn = absurd (not-suc-le-zero h)
        by GraphicsI none i h name hn = any-fails 2048 (λ j. is_dirty map (base GraphicsI patterns r + j)) none (8 * name + l % 8) (omega arith)
        by GraphicsII none i h name hn = any-fails 6144 (λ j. is_dirty map (base GraphicsII patterns r + j)) none (l / 64 * 2048 + 8 * name + l % 8) (omega arith)
        by Multicolor none i h name hn = any-fails 2048 (λ j. is_dirty map (base Multicolor patterns r + j)) none (8 * name + l / 4 % 8) (omega arith)
        by Text none i h name hn = any-fails 2048 (λ j. is_dirty map (base Text patterns r + j)) none (8 * name + l % 8) (omega arith)

    pub no-colour : (m : Mode) → table_dirty m colours r map ≡ false → colours_dirty m r vram map l ≡ false
    unfolding colour_address
    no-colour m none = none-holds (cells_in m) (λ i. colour_dirty m r map l (get_or vram (name_address m r l i) 0)) (λ i h. by m none (get_or vram (name_address m r l i) 0) (bytes (name_address m r l i)))
      where
        by : (m : Mode) → table_dirty m colours r map ≡ false → (name : ℕ) → name < 256 → colour_dirty m r map l name ≡ false
        by Blank none name hn = refl
        by GraphicsI none name hn = any-fails 32 (λ j. is_dirty map (base GraphicsI colours r + j)) none (name / 8) (omega arith)
        by GraphicsII none name hn = any-fails 6144 (λ j. is_dirty map (base GraphicsII colours r + j)) none (l / 64 * 2048 + 8 * name + l % 8) (omega arith)
        by Multicolor none name hn = refl
        by Text none name hn = refl

    pub none-dirty : (m : Mode) (t : Table) → table_dirty m (table_of t) r map ≡ false → cells_dirty m t r vram map l ≡ false
    none-dirty m Patterns none = no-pattern m none
    none-dirty m Colours none = no-colour m none
