-- What the names of a row choose from a table.
use Prim.Native.Nat.{ℕ, ◌+◌, ◌-◌, ◌*◌, ◌/◌, ◌%◌, ◌≤◌, ◌<◌}
use native.Mathlib.Omega.{arith}
use mathlib.Core.Path.{◌≡◌, sym, ap, ap₂, ◌∙◌}
use mathlib.Core.Bool.{Bool, true}
use mathlib.Core.List.{List}
use lib.ListN.{length, get_or, take, drop}
use Rattle.chip.specs.Bits.{bit}
use Rattle.chip.specs.Map.{is_dirty}
use Rattle.chip.specs.Ranges.{any_below}
use Rattle.chip.specs.State.{masked}
use Rattle.chip.specs.Tables.{names, colours, base}
use Rattle.chip.specs.declared.mode.Mode.{Mode}
use Rattle.chip.specs.declared.mode.Mode.TheVariants.{GraphicsI, GraphicsII}
use Rattle.chip.proofs.Laws.Ranges.{any_same}
use Rattle.planes.specs.Cells.{cells_in, name_address, pattern_address, colour_address}
use Rattle.std.specs.List.{list_any}
use Rattle.dirty.specs.declared.tables.Table.{Table}
use Rattle.dirty.specs.declared.tables.Table.TheVariants.{Patterns, Colours}
use Rattle.dirty.specs.Plane.{ByteBits, third_of, byte_shown}
use Rattle.dirty.specs.Tables.{table_of, cells_dirty}
use Rattle.dirty.proofs.Laws.Parts.{any-places, any-sliced}
use Rattle.dirty.proofs.Laws.Plane.{name-at, pattern-at, colour-at}
use Rattle.dirty.proofs.Laws.Tables.{shown-small, row_inside}

-- Where code finds the names in VRAM, and the table's part in the map: a byte of it stands for eight of VRAM.
pub record Places (m : Mode) (t : Table) (r vram : List ℕ) (row first long from third : ℕ) : Type 0 where
  pub obeys_masks : masked r ≡ true
  pub holds_all : length vram ≡ 16384
  pub row_low : row < 24
  pub first_is : 8 * first ≡ base m names r + row * cells_in m
  pub long_is : 8 * long ≡ cells_in m
  pub from_is : 8 * from ≡ base m (table_of t) r
  pub third_is : third ≡ third_of m row

module _ {m : Mode} {t : Table} {r vram : List ℕ} {row first long from third : ℕ} (p : Places m t r vram row first long from third) where
  abbrev chosen_by : List ℕ
  chosen_by = take (8 * first + 8 * long - 8 * first) (drop (8 * first) vram)

  -- a test of the names is one of each line's names
  by_names : (test : ℕ → Bool) (k : ℕ) → k < 8 → any_below (length chosen_by) (λ i. test (get_or chosen_by i 0)) ≡ any_below (cells_in m) (λ i. test (get_or vram (name_address m r (8 * row + k) i) 0))
  by_names test k h =
      let inside : 8 * first + 8 * long ≤ length vram = omega (arith, p.holds_all, p.first_is, p.long_is, row_inside r p.obeys_masks m row p.row_low) in
      any-sliced vram (8 * first) (8 * long) test inside
      ∙ ap (λ (n : ℕ). any_below n (λ i. test (get_or vram (8 * first + i) 0))) p.long_is
      ∙ any_same (cells_in m) (λ i. test (get_or vram (8 * first + i) 0)) (λ i. test (get_or vram (name_address m r (8 * row + k) i) 0))
      (λ i below. ap (λ (a : ℕ). test (get_or vram a 0)) (sym (name-at r m row (8 * first) k p.first_is h i)))

  module _ (map : List ℕ) where
    -- the bytes of the map that the names choose, joined
    abbrev joined : ℕ → Bool
    joined k = any_below (length chosen_by) (λ i. bit k (get_or map (from + third + get_or chosen_by i 0) 0))

    -- each name's eight bytes of a table have their bits in one of them, and the lines show byte j of the eight
    joined-table : (j k : ℕ) → j < 8 → k < 8 → (address : ℕ → ℕ) → ((name i : ℕ) → i < cells_in m → address name ≡ 8 * (from + third + name) + j) → joined j ≡ any_below (cells_in m) (λ i. is_dirty map (address (get_or vram (name_address m r (8 * row + k) i) 0)))
    joined-table j k small h address at =
        by_names (λ name. bit j (get_or map (from + third + name) 0)) k h
        ∙ any_same (cells_in m) (λ i. bit j (get_or map (from + third + get_or vram (name_address m r (8 * row + k) i) 0) 0)) (λ i. is_dirty map (address (get_or vram (name_address m r (8 * row + k) i) 0)))
        (λ i below.
        let name : ℕ = get_or vram (name_address m r (8 * row + k) i) 0 in
        let place = at name i below in
        let which : j ≡ address name % 8 = omega arith in
        let byte : from + third + name ≡ address name / 8 = omega arith in
        ap₂ (λ (x y : ℕ). bit x (get_or map y 0)) which byte)

    pub patterns_joined : t ≡ Patterns → (byte lines : ℕ) → ByteBits byte joined → ByteBits lines (λ k. bit (byte_shown m (8 * row + k)) byte) → ByteBits lines (λ k. cells_dirty m t r vram map (8 * row + k))
    patterns_joined is byte lines bits shown k h =
        let small = shown-small m (8 * row + k) in
        rw is
        (shown k h
        ∙ bits (byte_shown m (8 * row + k)) small
        ∙ joined-table (byte_shown m (8 * row + k)) k small h (pattern_address m r (8 * row + k))
        (λ name i below. rw p.third_is (pattern-at r m from row k name i h below (rw is at p.from_is))))

    pub colours_joined : t ≡ Colours → m ≡ GraphicsII → (byte : ℕ) → ByteBits byte joined → ByteBits byte (λ k. cells_dirty m t r vram map (8 * row + k))
    colours_joined is mode byte bits k h =
        let from_is = rw (mode, is) at p.from_is in
        let third_is = rw mode at p.third_is in
        let dirty = rw mode at (bits k h ∙ joined-table k k h h (colour_address GraphicsII r (8 * row + k)) (λ name i below. rw third_is (colour-at r from row k name h from_is))) in
        rw (mode, is) dirty

    -- in Graphics I eight names have one byte of colours, which all lines show
    pub colours_shared : t ≡ Colours → m ≡ GraphicsI → {told : Bool} → told ≡ list_any (λ name. is_dirty map (8 * (from + third) + name / 8)) chosen_by → (k : ℕ) → k < 8 → told ≡ cells_dirty m t r vram map (8 * row + k)
    unfolding colour_address
    colours_shared is mode e k h =
        let from_is = rw (mode, is) at p.from_is in
        let third_is = rw mode at p.third_is in
        let start : 8 * (from + third) ≡ base GraphicsI colours r = omega arith in
        let dirty = rw (mode, start) at (e ∙ any-places (λ name. is_dirty map (8 * (from + third) + name / 8)) chosen_by ∙ by_names (λ name. is_dirty map (8 * (from + third) + name / 8)) k h) in
        rw (mode, is) dirty
