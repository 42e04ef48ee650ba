-- The 14-byte state layout that snapshots hold, and the 17-byte state block that is lent from C.
use Rattle.std.specs.Prelude.{ℕ, Bool, cond, ◌&&◌, ◌||◌, List, [], ◌∷◌, ◌++◌, eqb, leb, get_or, take}
use mir.Val.{bool_byte}
use Rattle.chip.specs.TwoBytes.{low_first, low_first_at}
use Rattle.chip.specs.State.{flag_of, byte_of, waiting_of, with_address}
use Rattle.chip.specs.declared.state.Chip.{Chip}

-- Eight registers, the address low byte first, the buffer, the waiting flag 0 or 1, the first byte, status.
abbrev pub encoded : Chip → List ℕ
encoded c =
    c.registers
    ++ (low_first c.address ++ (c.buffer ∷ flag_of c.waiting ∷ byte_of c.waiting ∷ c.status ∷ []))

-- Whether the flag is 1, or is 0 with a first byte of 0.
abbrev pub waiting_valid : ℕ → ℕ → Bool
waiting_valid flag a = eqb flag 1 || eqb flag 0 && eqb a 0

-- The fields as 14 bytes have them, beside the redraw mark and the count of lost first bytes, which they do not have.
abbrev pub state_in : List ℕ → Bool → ℕ → Chip
state_in b redraw lost =
    record {
      registers = take 8 b;
      address = low_first_at b 8;
      buffer = get_or b 10 0;
      waiting = waiting_of (get_or b 11 0) (get_or b 12 0);
      status = get_or b 13 0;
      redraw = redraw;
      lost = lost;
    }

-- The state that bytes hold, if they are valid. What other bytes decode to has an address that is too large, so that no call
-- which tests the state accepts it.
abbrev pub address_if : Bool → ℕ → ℕ
address_if valid a = cond valid a 65535

abbrev pub if_valid : Bool → Chip → Chip
if_valid valid c = with_address (address_if valid c.address) c

-- The state that 14 bytes hold. Registers outside their masks and too large an address decode as they stand: the calls test
-- the state.
unfoldable pub decoded : List ℕ → Bool → ℕ → Chip
decoded b redraw lost = if_valid (waiting_valid (get_or b 11 0) (get_or b 12 0)) (state_in b redraw lost)

abbrev pub block_size : ℕ
block_size = 17

-- The state block: the 14 bytes, the redraw mark as 0 or 1, and the count of lost first bytes, low byte first.
abbrev pub block_of : Chip → List ℕ
block_of c = encoded c ++ (bool_byte c.redraw ∷ low_first c.lost)

unfoldable pub chip_of : List ℕ → Chip
chip_of b = if_valid (leb (get_or b 14 0) 1) (decoded b (eqb (get_or b 14 0) 1) (low_first_at b 15))
