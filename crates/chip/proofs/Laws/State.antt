-- Well-formed states, and states whose values fit their types.
use Prim.Native.Nat.{◌≤◌, ◌<◌}
use mathlib.Core.Path.{◌≡◌}
use mathlib.Core.Bool.{true}
use lib.ListN.{length}
use borrow.Author.Tests.{leb-true}
use Rattle.chip.specs.State.{well_formed, masked, byte_of, head_to, in_tail, Change, registers_to, address_to, buffer_to, waiting_to, status_to, redraw_to, lost_to, changed, Bytes, Fits}
use Rattle.chip.specs.declared.state.Chip.{Chip}
use Rattle.chip.proofs.Laws.Ranges.{and_left, and_right}

pub address-in : (c : Chip) → well_formed c ≡ true → c.address ≤ 16383
unfolding well_formed
address-in c e = leb-true c.address 16383 (and_right (masked c.registers) _ e)

pub masked-in : (c : Chip) → well_formed c ≡ true → masked c.registers ≡ true
unfolding well_formed
masked-in c e = and_left (masked c.registers) _ e

-- That a change's value fits its field's type.
abbrev pub FitsType : Change → Type 0
FitsType (registers_to l) = (length l ≡ 8) × Bytes l
FitsType (address_to a) = a < 65536
FitsType (buffer_to b) = b < 256
FitsType (waiting_to w) = byte_of w < 256
FitsType (status_to s) = s < 256
FitsType (redraw_to m) = Unit {0}
FitsType (lost_to n) = n < 65536

-- `Fits` as a chain, in the order of the state's fields
abbrev Chain : Chip → Type 0
Chain c =
    FitsType (registers_to c.registers)
    × (FitsType (address_to c.address)
    × (FitsType (buffer_to c.buffer)
    × (FitsType (waiting_to c.waiting)
    × (FitsType (status_to c.status) × (FitsType (redraw_to c.redraw) × (FitsType (lost_to c.lost) × Unit {0}))))))

chain : {c : Chip} → Fits c → Chain c
chain f = ((f.eight, f.registers), (f.address, (f.buffer, (f.waiting, (f.status, (tt, (f.lost, tt)))))))

unchained : {c : Chip} → Chain c → Fits c
unchained p =
    record {
      eight = p.0.0;
      registers = p.0.1;
      address = p.1.0;
      buffer = p.1.1.0;
      waiting = p.1.1.1.0;
      status = p.1.1.1.1.0;
      lost = p.1.1.1.1.1.1.0;
    }

-- A change whose value fits its type keeps the others fitting.
pub fits-changed : (k : Change) → FitsType k → {c : Chip} → Fits c → Fits (changed k c)
fits-changed (registers_to l) h f = unchained (head_to h (chain f))
fits-changed (address_to a) h f = unchained (in_tail (head_to h) (chain f))
fits-changed (buffer_to b) h f = unchained (in_tail (in_tail (head_to h)) (chain f))
fits-changed (waiting_to w) h f = unchained (in_tail (in_tail (in_tail (head_to h))) (chain f))
fits-changed (status_to s) h f = unchained (in_tail (in_tail (in_tail (in_tail (head_to h)))) (chain f))
fits-changed (redraw_to m) h f = unchained (in_tail (in_tail (in_tail (in_tail (in_tail (head_to h))))) (chain f))
fits-changed (lost_to n) h f = unchained (in_tail (in_tail (in_tail (in_tail (in_tail (in_tail (head_to h)))))) (chain f))
