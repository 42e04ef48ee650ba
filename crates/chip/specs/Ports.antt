-- The port operations on a well-formed state and VRAM of its full size. Each hands the next state back.
use Rattle.std.specs.Prelude.{ℕ, ◌+◌, ◌*◌, ◌%◌, Bool, true, cond, not, ◌&&◌, ◌||◌, List, eqb, leb, ltb, get_or, set, replicate, Option, None, Some}
use Rattle.chip.specs.Bits.{bit, set_bit}
use Rattle.chip.specs.State.{vram_size, kept, register, with_registers, with_address, with_buffer, with_waiting, with_status, with_redraw, with_lost}
use Rattle.chip.specs.declared.state.Chip.{Chip}

-- The address one step on: from 16,383 it goes to 0.
abbrev pub next_address : ℕ → ℕ
next_address a = (a + 1) % vram_size

-- The buffer takes VRAM at the address, which steps.
abbrev pub prefetched : List ℕ → Chip → Chip
prefetched vram c = with_address (next_address c.address) (with_buffer (get_or vram c.address 0) c)

-- Register n takes what it keeps of byte a. Where that alters the register, the redraw mark is set.
abbrev pub register_written : ℕ → ℕ → Chip → Chip
register_written n a c =
    with_redraw (c.redraw || not (eqb (kept n a) (register n c.registers)))
    (with_registers (set c.registers n (kept n a)) c)

-- What the second byte b of a pair does, once the address is set: hex 80 and more writes register b mod 8,
-- below hex 40 sets up a read, and nothing more otherwise.
abbrev pub pair_done : ℕ → ℕ → List ℕ → Chip → Chip
pair_done a b vram c = cond (leb 128 b) (register_written (b % 8) a c) (cond (ltb b 64) (prefetched vram c) c)

-- Control write. With none waiting, byte b waits. With byte a waiting, b completes the pair.
abbrev pub control_by : Option ℕ → ℕ → List ℕ → Chip → Chip
control_by None b vram c = with_waiting (Some b) c
control_by (Some a) b vram c = pair_done a b vram (with_address (b % 64 * 256 + a) (with_waiting None c))

abbrev pub control : ℕ → List ℕ → Chip → Chip
control b vram c = control_by c.waiting b vram c

-- Where the count of lost first bytes stops.
abbrev pub most_lost : ℕ
most_lost = 65535

-- The count n once what waits has been dropped: one more if a byte waited.
abbrev pub lost_by : Option ℕ → ℕ → ℕ
lost_by None n = n
lost_by (Some a) n = cond (ltb n most_lost) (n + 1) most_lost

-- A first byte that waits is dropped and counted, so that nothing waits: part of a data write, a data read and a status read.
abbrev pub first_dropped : Chip → Chip
first_dropped c = with_lost (lost_by c.waiting c.lost) (with_waiting None c)

-- Data write: VRAM at the address and the buffer take the byte, the address steps. (Its map bit: see Map.)
abbrev pub data_written : ℕ → Chip → Chip
data_written b c = first_dropped (with_address (next_address c.address) (with_buffer b c))

abbrev pub stored : ℕ → Chip → List ℕ → List ℕ
stored b c vram = set vram c.address b

-- Data read: answers the buffer, which is then filled again.
abbrev pub after_data_read : List ℕ → Chip → Chip
after_data_read vram c = first_dropped (prefetched vram c)

-- Status read: answers status, then F (hex 80), 5S (40) and C (20) are clear and the low five bits stay.
abbrev pub after_status_read : Chip → Chip
after_status_read c = first_dropped (with_status (c.status % 32) c)

-- End of active display sets F.
abbrev pub display_ended : Chip → Chip
display_ended c = with_status (set_bit 7 c.status) c

-- The interrupt line: F (status bit 7) while interrupts are enabled (register 1, bit 5).
abbrev pub interrupt_on : Chip → Bool
interrupt_on c = bit 7 c.status && bit 5 (register 1 c.registers)

-- After reset registers 0 and 1, status and the count of lost first bytes are zero, nothing waits and the redraw mark is set. A
-- byte that waited is not counted. VRAM, map and the rest stay.
abbrev pub was_reset : Chip → Chip
was_reset c = with_lost 0 (with_redraw true (with_waiting None (with_status 0 (with_registers (set (set c.registers 0 0) 1 0) c))))

-- Power-up fills VRAM with zeros.
abbrev pub cleared_vram : List ℕ
cleared_vram = replicate vram_size 0
