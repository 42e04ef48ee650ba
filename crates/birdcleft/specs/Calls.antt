-- The calls from C: a direct call on the state that a lent 17-byte block holds, between decoding and encoding.
use Rattle.std.specs.Prelude.{ℕ, ◌*◌, List, [], ◌∷◌}
use Rattle.chip.specs.Refusals.{Outcome, number_of, result_of, refusal_of, if_accepted, vram_test, slice_test}
use Rattle.chip.specs.Layout.{block_size, block_of, chip_of}
use Rattle.chip.specs.Calls as direct
use Rattle.chip.specs.declared.state.Chip.{Chip}
use Rattle.chip.specs.declared.refusal.Answer.{Answer}

-- What a call from C gives: one number, and the block at exit.
pub record FromC : Type 0 where
  pub result : ℕ
  pub block : List ℕ

-- The tests at entry, past which the block can be decoded: VRAM's length, where VRAM is lent, and the block's. All others are
-- the direct call's. This keeps the one order of tests: VRAM's length comes first in it, then the lengths with number 2, of
-- which the block's is one, and everything else later (proofs/Order.antt).
unfoldable pub block_entry : List ℕ → Outcome
block_entry block = refusal_of (slice_test block_size block ∷ [])

unfoldable pub vram_entry : List ℕ → List ℕ → Outcome
vram_entry block vram = refusal_of (vram_test vram ∷ slice_test block_size block ∷ [])

-- The number that a call answers: 256 times the number of the refusal at entry, or the direct call's own.
unfoldable pub result_through : Outcome → List ℕ → (Chip → Answer) → ℕ
result_through entry block call = if_accepted entry (result_of (call (chip_of block))) (number_of entry * 256)

-- The block at exit: the next state's where the call is accepted, and as lent where it is refused, at entry or by the direct call.
unfoldable pub block_through : Outcome → List ℕ → (Chip → Answer) → List ℕ
block_through entry block call =
    if_accepted entry (if_accepted (call (chip_of block)).result (block_of (call (chip_of block)).chip) block) block

-- Another lent list at exit: what the direct call leaves, and as lent where the call is refused at entry.
unfoldable pub list_through : Outcome → List ℕ → (Chip → List ℕ) → List ℕ → List ℕ
list_through entry block leaves lent = if_accepted entry (leaves (chip_of block)) lent

abbrev pub through : Outcome → List ℕ → (Chip → Answer) → FromC
through entry block call = record { result = result_through entry block call; block = block_through entry block call }

-- Power-up replaces the state, and so takes a block of any 17 bytes.
abbrev pub power_up : List ℕ → List ℕ → FromC
power_up block vram = through (vram_entry block vram) block (λ c. direct.power_up c vram)

abbrev pub power_up_vram : List ℕ → List ℕ → List ℕ
power_up_vram block vram = list_through (vram_entry block vram) block (λ c. direct.power_up_vram vram) vram

abbrev pub control_write : List ℕ → List ℕ → ℕ → FromC
control_write block vram b = through (vram_entry block vram) block (λ c. direct.control_write c vram b)

abbrev pub data_write : List ℕ → List ℕ → List ℕ → ℕ → FromC
data_write block vram map b = through (vram_entry block vram) block (λ c. direct.data_write c vram map b)

abbrev pub data_write_vram : List ℕ → List ℕ → List ℕ → ℕ → List ℕ
data_write_vram block vram map b = list_through (vram_entry block vram) block (λ c. direct.data_write_vram c vram map b) vram

abbrev pub data_write_map : List ℕ → List ℕ → List ℕ → List ℕ
data_write_map block vram map = list_through (vram_entry block vram) block (λ c. direct.data_write_map c vram map) map

abbrev pub data_read : List ℕ → List ℕ → FromC
data_read block vram = through (vram_entry block vram) block (λ c. direct.data_read c vram)

abbrev pub status_read : List ℕ → FromC
status_read block = through (block_entry block) block direct.status_read

abbrev pub end_of_display : List ℕ → FromC
end_of_display block = through (block_entry block) block direct.end_of_display

-- The block is lent to read only, so there is a number alone.
abbrev pub interrupt_line : List ℕ → ℕ
interrupt_line block = result_through (block_entry block) block direct.interrupt_line

abbrev pub reset : List ℕ → FromC
reset block = through (block_entry block) block direct.reset
