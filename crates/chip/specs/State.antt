-- The chip's state: eight registers, a 14-bit address, the read buffer, the waiting first byte, status, the redraw mark and the
-- count of lost first bytes.
use Rattle.std.specs.Prelude.{ℕ, ◌<◌, ◌≡◌, Bool, true, cond, ◌&&◌, List, [], ◌∷◌, eqb, leb, length, get_or, replicate, Option, None, Some}
use Rattle.std.specs.Int.Bits.{bit_and}
use Rattle.chip.specs.Ranges.{all_below}
use Rattle.chip.specs.declared.state.Chip.{Chip}

-- How many bytes of VRAM there are.
abbrev pub vram_size : ℕ
vram_size = 16384

-- The waiting first byte as the state block's two bytes: none is 0 and 0, the byte a is 1 and a.
abbrev pub flag_of : Option ℕ → ℕ
flag_of None = 0
flag_of (Some a) = 1

abbrev pub byte_of : Option ℕ → ℕ
byte_of None = 0
byte_of (Some a) = a

abbrev pub waiting_of : ℕ → ℕ → Option ℕ
waiting_of flag a = cond (eqb flag 1) (Some a) None

-- At power-up all is zero, the count of lost first bytes too; nothing waits, and the redraw mark is set.
abbrev pub power_up_state : Chip
power_up_state = record { registers = replicate 8 0; address = 0; buffer = 0; waiting = None; status = 0; redraw = true; lost = 0 }

-- The bits that registers 0 to 7 keep.
abbrev pub masks : List ℕ
masks = 0x03 ∷ 0xFB ∷ 0x0F ∷ 0xFF ∷ 0x07 ∷ 0x7F ∷ 0x07 ∷ 0xFF ∷ []

-- What register n keeps of a byte.
abbrev pub kept : ℕ → ℕ → ℕ
kept n x = bit_and x (get_or masks n 0)

-- Register n of a state's registers.
abbrev pub register : ℕ → List ℕ → ℕ
register n registers = get_or registers n 0

-- Whether register n holds only bits that it keeps, and whether all eight do.
abbrev pub obeys : List ℕ → ℕ → Bool
obeys registers n = eqb (kept n (register n registers)) (register n registers)

unfoldable pub masked : List ℕ → Bool
masked registers = all_below 8 (obeys registers)

-- Whether a state is well-formed: no register holds a bit outside its mask, and the address lies within VRAM. Any count
-- of lost first bytes is allowed.
unfoldable pub well_formed : Chip → Bool
well_formed c = masked c.registers && leb c.address 16383

-- The state's fields as a chain of pairs, so that one of them can be changed and the rest passed on.
abbrev pub Fields : Type 0
Fields = List ℕ × (ℕ × (ℕ × (Option ℕ × (ℕ × (Bool × (ℕ × Unit {0}))))))

-- The state built again from its fields after a change to their chain.
abbrev pub rebuilt : (Fields → Fields) → Chip → Chip
rebuilt change c =
    let f : Fields = change (c.registers, (c.address, (c.buffer, (c.waiting, (c.status, (c.redraw, (c.lost, tt))))))) in
    record {
      registers = f.0;
      address = f.1.0;
      buffer = f.1.1.0;
      waiting = f.1.1.1.0;
      status = f.1.1.1.1.0;
      redraw = f.1.1.1.1.1.0;
      lost = f.1.1.1.1.1.1.0;
    }

-- A chain with its head replaced, and with its tail changed.
module _ {A B C : Type 0} where
  abbrev pub head_to : C → A × B → C × B
  head_to v p = (v, p.1)

  abbrev pub in_tail : (B → C) → A × B → A × C
  in_tail f p = (p.0, f p.1)

-- One field changed. (A further field is an entry in `Fields` and in `rebuilt`, and a line here and in `changed`.)
pub data Change : Type 0 where
  registers_to : List ℕ → Change
  address_to : ℕ → Change
  buffer_to : ℕ → Change
  waiting_to : Option ℕ → Change
  status_to : ℕ → Change
  redraw_to : Bool → Change
  lost_to : ℕ → Change

abbrev pub changed : Change → Chip → Chip
changed (registers_to l) c = rebuilt (head_to l) c
changed (address_to a) c = rebuilt (in_tail (head_to a)) c
changed (buffer_to b) c = rebuilt (in_tail (in_tail (head_to b))) c
changed (waiting_to w) c = rebuilt (in_tail (in_tail (in_tail (head_to w)))) c
changed (status_to s) c = rebuilt (in_tail (in_tail (in_tail (in_tail (head_to s))))) c
changed (redraw_to m) c = rebuilt (in_tail (in_tail (in_tail (in_tail (in_tail (head_to m)))))) c
changed (lost_to n) c = rebuilt (in_tail (in_tail (in_tail (in_tail (in_tail (in_tail (head_to n))))))) c

abbrev pub with_registers : List ℕ → Chip → Chip
with_registers l c = changed (registers_to l) c

abbrev pub with_address : ℕ → Chip → Chip
with_address a c = changed (address_to a) c

abbrev pub with_buffer : ℕ → Chip → Chip
with_buffer b c = changed (buffer_to b) c

abbrev pub with_waiting : Option ℕ → Chip → Chip
with_waiting w c = changed (waiting_to w) c

abbrev pub with_status : ℕ → Chip → Chip
with_status s c = changed (status_to s) c

abbrev pub with_redraw : Bool → Chip → Chip
with_redraw m c = changed (redraw_to m) c

abbrev pub with_lost : ℕ → Chip → Chip
with_lost n c = changed (lost_to n) c

-- That a list holds bytes.
abbrev pub Bytes : List ℕ → Type 0
Bytes l = (i : ℕ) → get_or l i 0 < 256

-- That the values fit their types, as they do in every state that code holds: eight registers, and each number within its width.
pub record Fits (c : Chip) : Type 0 where
  pub eight : length c.registers ≡ 8
  pub registers : Bytes c.registers
  pub address : c.address < 65536
  pub buffer : c.buffer < 256
  pub waiting : byte_of c.waiting < 256
  pub status : c.status < 256
  pub lost : c.lost < 65536
