-- The round trips between a state and its bytes, and that what bytes decode to fits its types.
use Prim.Native.Nat.{ℕ, ◌+◌, ◌*◌, ◌≤◌, ◌<◌}
use native.Mathlib.Omega.{arith}
use mathlib.Core.Path.{◌≡◌, refl, sym, ap, ap₂, ◌∙◌}
use mathlib.Core.Bool.{Bool, true, false, cond, ◌&&◌, ◌||◌}
use mathlib.Core.List.{List, [], ◌∷◌, ◌++◌}
use Rattle.chip.specs.Lists.{tabulate}
use lib.Dec.{eqb, leb, lit<}
use lib.ListN.{length, get_or, take, length-append, get_or-append}
use lib.Seq.{take_at, take-append-le, get_or-append-add, length-take-le}
use mir.Val.{bool_byte}
use borrow.Author.Tests.{eqb-true, eqb-false, leb-true}
use Rattle.chip.specs.TwoBytes.{low_first, low_first_at}
use Rattle.chip.specs.State.{Bytes, Fits, flag_of, byte_of, waiting_of, masked, well_formed, with_redraw, with_lost, address_to}
use Rattle.chip.specs.Layout.{encoded, waiting_valid, state_in, if_valid, decoded, block_of, chip_of}
use Rattle.chip.specs.declared.state.Chip.{Chip}
use Rattle.std.specs.Prelude.{Option, None, Some}
use Rattle.chip.proofs.Laws.Lists.{take-tabulate, listed, bytes_take}
use Rattle.chip.proofs.Laws.TwoBytes.{low-first-is, low-first-back, low-first-small}
use Rattle.chip.proofs.Laws.Ranges.{and_left, and_right}
use Rattle.chip.proofs.Laws.State.{fits-changed}

-- Where the test holds, bytes decode as they stand.
as-held : {x : Bool} → x ≡ true → (c : Chip) → if_valid x c ≡ c
as-held holds c = rw holds

-- the waiting byte, as two bytes and back
waits : (w : Option ℕ) → waiting_of (flag_of w) (byte_of w) ≡ w
waits None = refl
waits (Some a) = refl

valid : (w : Option ℕ) → waiting_valid (flag_of w) (byte_of w) ≡ true
valid None = refl
valid (Some a) = refl

module _ (c : Chip) (eight : length c.registers ≡ 8) where
  abbrev rest : List ℕ
  rest = low_first c.address ++ (c.buffer ∷ flag_of c.waiting ∷ byte_of c.waiting ∷ c.status ∷ [])

  -- what stands behind the registers
  after : (k : ℕ) → get_or (c.registers ++ rest) (8 + k) 0 ≡ get_or rest k 0
  after k = ap (λ (n : ℕ). get_or (c.registers ++ rest) (n + k) 0) (sym eight) ∙ get_or-append-add c.registers rest k 0

  -- Decoding what a state encodes to gives the state back, with the redraw mark and the count that are given.
  pub decoded-encoded : (m : Bool) (n : ℕ) → decoded (encoded c) m n ≡ with_lost n (with_redraw m c)
  unfolding decoded
  decoded-encoded m n =
      as-held (ap₂ waiting_valid (after 3) (after 4) ∙ valid c.waiting) (state_in (encoded c) m n)
      ∙ (λ i.
      record {
        registers = take_at c.registers rest 8 eight i;
        address = low-first-is (encoded c) 8 c.address (after 0) (after 1) i;
        buffer = after 2 i;
        waiting = (ap₂ waiting_of (after 3) (after 4) ∙ waits c.waiting) i;
        status = after 5 i;
        redraw = m;
        lost = n;
      })

  -- That is well-formed exactly where the state is.
  pub well-formed-encoded : (m : Bool) (n : ℕ) → well_formed (decoded (encoded c) m n) ≡ well_formed c
  unfolding well_formed
  well-formed-encoded m n = ap well_formed (decoded-encoded m n)

  pub length-encoded : length (encoded c) ≡ 14
  length-encoded = length-append c.registers rest ∙ ap (λ (n : ℕ). n + 6) eight

  -- what stands behind the 14 bytes in the block
  abbrev after-layout : List ℕ
  after-layout = bool_byte c.redraw ∷ low_first c.lost

  behind : (k : ℕ) → get_or (block_of c) (14 + k) 0 ≡ get_or after-layout k 0
  behind k = ap (λ (n : ℕ). get_or (block_of c) (n + k) 0) (sym length-encoded) ∙ get_or-append-add (encoded c) after-layout k 0

-- the redraw mark, as a byte and back
redraw-back : (m : Bool) → eqb (bool_byte m) 1 ≡ m
redraw-back true = refl
redraw-back false = refl

redraw-small : (m : Bool) → leb (bool_byte m) 1 ≡ true
redraw-small true = refl
redraw-small false = refl

-- the first 14 bytes decide
module _ (p q : List ℕ) (fourteen : length p ≡ 14) where
  front : (k : ℕ) → k < 14 → get_or (p ++ q) k 0 ≡ get_or p k 0
  front k h = get_or-append p q 0 k (omega arith)

  decoded-front : (m : Bool) (n : ℕ) → decoded (p ++ q) m n ≡ decoded p m n
  unfolding decoded
  decoded-front m n = λ i.
      if_valid (waiting_valid (front 11 (lit< tt) i) (front 12 (lit< tt) i))
      (record {
        registers = take-append-le 8 p q (omega arith) i;
        address = front 8 (lit< tt) i + 256 * front 9 (lit< tt) i;
        buffer = front 10 (lit< tt) i;
        waiting = waiting_of (front 11 (lit< tt) i) (front 12 (lit< tt) i);
        status = front 13 (lit< tt) i;
        redraw = m;
        lost = n;
      })

module _ (c : Chip) (eight : length c.registers ≡ 8) where
  -- Decoding a state's block gives the state back.
  pub chip-block : chip_of (block_of c) ≡ c
  unfolding chip_of
  chip-block =
      let redraw : get_or (block_of c) 14 0 ≡ bool_byte c.redraw = behind c eight 0 in
      let lost : low_first_at (block_of c) 15 ≡ c.lost = low-first-is (block_of c) 15 c.lost (behind c eight 1) (behind c eight 2) in
      as-held (ap (λ (b : ℕ). leb b 1) redraw ∙ redraw-small c.redraw) (decoded (block_of c) (eqb (get_or (block_of c) 14 0) 1) (low_first_at (block_of c) 15))
      ∙ ap₂ (decoded (block_of c)) (ap (λ (b : ℕ). eqb b 1) redraw ∙ redraw-back c.redraw) lost
      ∙ decoded-front (encoded c) (after-layout c eight) (length-encoded c eight) c.redraw c.lost
      ∙ decoded-encoded c eight c.redraw c.lost

  pub length-block : length (block_of c) ≡ 17
  length-block = length-append (encoded c) (after-layout c eight) ∙ ap (λ (n : ℕ). n + 3) (length-encoded c eight)

-- bytes that are not valid decode to no well-formed state
valid-held : (x : Bool) (c : Chip) → well_formed (if_valid x c) ≡ true → x ≡ true
unfolding well_formed
valid-held true c h = refl
valid-held false c h = and_right (masked c.registers) _ h

-- the flag and the first byte of a state are those of what they decode to
flag-back : (f a : ℕ) → waiting_valid f a ≡ true → (flag_of (waiting_of f a) ≡ f) × (byte_of (waiting_of f a) ≡ a)
flag-back f a = by (eqb f 1) refl
  where
    by : (x : Bool) → eqb f 1 ≡ x → (x || eqb f 0 && eqb a 0) ≡ true → (flag_of (cond x (Some a) None) ≡ f) × (byte_of (cond x (Some a) None) ≡ a)
    by true e h = (sym (eqb-true f 1 e), refl)
    by false e h = (sym (eqb-true f 0 (and_left (eqb f 0) (eqb a 0) h)), sym (eqb-true a 0 (and_right (eqb f 0) (eqb a 0) h)))

-- Bytes that decode to a well-formed state decode as they stand, with a waiting flag and a first byte of a state.
module _ (b : List ℕ) (m : Bool) (n : ℕ) (ok : well_formed (decoded b m n) ≡ true) where
  flag-valid : waiting_valid (get_or b 11 0) (get_or b 12 0) ≡ true
  unfolding decoded
  flag-valid = valid-held (waiting_valid (get_or b 11 0) (get_or b 12 0)) (state_in b m n) ok

  as-stands : decoded b m n ≡ state_in b m n
  unfolding decoded
  as-stands = as-held flag-valid (state_in b m n)

-- Encoding the well-formed state that 14 bytes decode to gives the bytes back.
pub encoded-decoded : (b : List ℕ) → Bytes b → (m : Bool) (n : ℕ) → well_formed (decoded b m n) ≡ true → 14 ≤ length b → encoded (decoded b m n) ≡ take 14 b
unfolding tabulate
encoded-decoded b bytes m n ok long =
    let at : ℕ → ℕ = λ k. get_or b k 0 in
    let flags = flag-back (at 11) (at 12) (flag-valid b m n ok) in
    let eight : 8 ≤ length b = omega arith in
    ap encoded (as-stands b m n ok)
    ∙ (λ i. take-tabulate 8 b eight i ++ (low-first-back b bytes 8 i ++ (at 10 ∷ flags.0 i ∷ flags.1 i ∷ at 13 ∷ [])))
    ∙ sym (take-tabulate 14 b long)

redraw-byte : (x : ℕ) → leb x 1 ≡ true → bool_byte (eqb x 1) ≡ x
redraw-byte x h = by (eqb x 1) refl
  where
    by : (y : Bool) → eqb x 1 ≡ y → bool_byte y ≡ x
    by true e = sym (eqb-true x 1 e)
    by false e = let low = leb-true x 1 h in let not-one = eqb-false x 1 e in omega arith

-- Encoding the well-formed state that a block decodes to gives the block back.
pub block-chip : (b : List ℕ) → Bytes b → length b ≡ 17 → well_formed (chip_of b) ≡ true → block_of (chip_of b) ≡ b
unfolding chip_of tabulate
block-chip b bytes seventeen ok =
    let mark = get_or b 14 0 in
    let c : Chip = decoded b (eqb mark 1) (low_first_at b 15) in
    let small : leb mark 1 ≡ true = valid-held (leb mark 1) c ok in
    let is : if_valid (leb mark 1) c ≡ c = as-held small c in
    let formed : well_formed c ≡ true = sym (ap well_formed is) ∙ ok in
    let long : 14 ≤ length b = omega arith in
    let stands : c ≡ state_in b (eqb mark 1) (low_first_at b 15) = as-stands b (eqb mark 1) (low_first_at b 15) formed in
    ap block_of is
    ∙ ap₂ ◌++◌
    (encoded-decoded b bytes (eqb mark 1) (low_first_at b 15) formed long ∙ take-tabulate 14 b long)
    (ap (λ (d : Chip). bool_byte d.redraw ∷ low_first d.lost) stands ∙ ap₂ (λ (x : ℕ) (l : List ℕ). x ∷ l) (redraw-byte mark small) (low-first-back b bytes 15))
    ∙ sym (listed 17 b seventeen)

-- What bytes decode to fits its types.
fits-held : (x : Bool) {c : Chip} → Fits c → Fits (if_valid x c)
fits-held true f = f
fits-held false f = fits-changed (address_to 65535) (lit< tt) f

waiting-byte : (flag a : ℕ) → a < 256 → byte_of (waiting_of flag a) < 256
waiting-byte flag a h = by (eqb flag 1)
  where
    by : (x : Bool) → byte_of (cond x (Some a) None) < 256
    by true = h
    by false = lit< tt

module _ (b : List ℕ) (bytes : Bytes b) (long : 8 ≤ length b) where
  pub fits-decoded : (m : Bool) (n : ℕ) → n < 65536 → Fits (decoded b m n)
  unfolding decoded
  fits-decoded m n h =
      fits-held (waiting_valid (get_or b 11 0) (get_or b 12 0))
      (record {
        eight = length-take-le 8 b long;
        registers = bytes_take 8 b bytes;
        address = low-first-small b bytes 8;
        buffer = bytes 10;
        waiting = waiting-byte (get_or b 11 0) (get_or b 12 0) (bytes 12);
        status = bytes 13;
        lost = h;
      })

  pub fits-chip : Fits (chip_of b)
  unfolding chip_of
  fits-chip = fits-held (leb (get_or b 14 0) 1) (fits-decoded (eqb (get_or b 14 0) 1) (low_first_at b 15) (low-first-small b bytes 15))
