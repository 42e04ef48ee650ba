-- States that are well-formed and whose values fit their types: each port operation hands back such a state.
use Prim.Native.Nat.{ℕ, ◌+◌, ◌*◌, ◌%◌, ◌≤◌, ◌<◌}
use native.Mathlib.Omega.{arith}
use mathlib.Core.Path.{◌≡◌, refl, ◌∙◌}
use mathlib.Core.Bool.{Bool, true, false, cond}
use mathlib.Core.List.{List}
use lib.Bits.{or_lt}
use lib.Dec.{ltb, leb, lit<}
use lib.ListN.{length-set, get_or, set}
use borrow.Author.Tests.{le-leb, ltb-true}
use Rattle.chip.specs.Bits.{set_bit}
use Rattle.chip.specs.State.{Bytes, Fits, byte_of, kept, masked, well_formed, power_up_state, Change, registers_to, address_to, buffer_to, waiting_to, status_to, redraw_to, lost_to, changed, with_registers}
use Rattle.chip.specs.Ports.{next_address, prefetched, register_written, control_by, control, most_lost, lost_by, first_dropped, data_written, after_data_read, after_status_read, display_ended, was_reset}
use Rattle.chip.specs.declared.state.Chip.{Chip}
use Rattle.std.specs.Prelude.{Option, None, Some}
use Rattle.chip.proofs.Laws.Lists.{bytes-zeros}
use Rattle.chip.proofs.Laws.Ranges.{and_both, and_right}
use Rattle.chip.proofs.Laws.State.{masked-in, FitsType, fits-changed}
use Rattle.chip.proofs.Laws.Registers.{kept_byte, bytes-set, masked-set}

pub record Ready (c : Chip) : Type 0 where
  pub fits : Fits c
  pub well-formed : well_formed c ≡ true

-- That a changed field leaves a state well-formed.
abbrev pub KeepsWellFormed : Change → Type 0
KeepsWellFormed (registers_to l) = masked l ≡ true
KeepsWellFormed (address_to a) = a ≤ 16383
KeepsWellFormed (buffer_to b) = Unit {0}
KeepsWellFormed (waiting_to w) = Unit {0}
KeepsWellFormed (status_to s) = Unit {0}
KeepsWellFormed (redraw_to m) = Unit {0}
KeepsWellFormed (lost_to n) = Unit {0}

well-formed-changed : (k : Change) → KeepsWellFormed k → (c : Chip) → well_formed c ≡ true → well_formed (changed k c) ≡ true
unfolding well_formed
well-formed-changed (registers_to l) h c ok = and_both h (and_right (masked c.registers) _ ok)
well-formed-changed (address_to a) h c ok = and_both (masked-in c ok) (le-leb a 16383 h)
well-formed-changed (buffer_to b) h c ok = ok
well-formed-changed (waiting_to w) h c ok = ok
well-formed-changed (status_to s) h c ok = ok
well-formed-changed (redraw_to m) h c ok = ok
well-formed-changed (lost_to n) h c ok = ok

-- One field changed.
pub ready-changed : (k : Change) → FitsType k → KeepsWellFormed k → {c : Chip} → Ready c → Ready (changed k c)
ready-changed k fits well {c} ready =
    record { fits = fits-changed k fits ready.fits; well-formed = well-formed-changed k well c ready.well-formed }

next-in : (a : ℕ) → next_address a ≤ 16383
next-in a = omega arith

at_address : {c : Chip} (a : ℕ) → a ≤ 16383 → Ready c → Ready (changed (address_to a) c)
at_address a h ready = ready-changed (address_to a) (omega arith) h ready

nothing-waits : {c : Chip} → Ready c → Ready (changed (waiting_to None) c)
nothing-waits ready = ready-changed (waiting_to None) (lit< tt) tt ready

-- the count stops
lost-small : (w : Option ℕ) (n : ℕ) → n < 65536 → lost_by w n < 65536
lost-small None n h = h
lost-small (Some a) n h = by (ltb n most_lost) refl
  where
    by : (t : Bool) → ltb n most_lost ≡ t → cond t (n + 1) most_lost < 65536
    by true e = let below = ltb-true n most_lost e in omega arith
    by false e = lit< tt

first-dropped : {c : Chip} → Ready c → Ready (first_dropped c)
first-dropped {c} ready =
    ready-changed (lost_to (lost_by c.waiting c.lost)) (lost-small c.waiting c.lost ready.fits.lost) tt (nothing-waits ready)

pub ready-power-up : Ready power_up_state
unfolding masked well_formed
ready-power-up =
    record {
      fits = record { eight = refl; registers = bytes-zeros 8; address = lit< tt; buffer = lit< tt; waiting = lit< tt; status = lit< tt; lost = lit< tt };
      well-formed = refl;
    }

-- The port operations.
module _ {c : Chip} (ready : Ready c) where
  -- a register takes what it keeps
  register-set : (n a : ℕ) → n < 8 → Ready (with_registers (set c.registers n (kept n a)) c)
  register-set n a h =
      let eight = ready.fits.eight in
      let long = length-set c.registers n (kept n a) ∙ eight in
      let bytes = bytes-set c.registers n (kept n a) ready.fits.registers (kept_byte n a h) in
      ready-changed (registers_to (set c.registers n (kept n a))) (long, bytes) (masked-set c.registers n a eight h (masked-in c ready.well-formed)) ready

  pub ready-register : (n a : ℕ) → n < 8 → Ready (register_written n a c)
  ready-register n a h = ready-changed (redraw_to _) tt tt (register-set n a h)

  module _ (vram : List ℕ) (bytes : Bytes vram) where
    pub ready-prefetched : Ready (prefetched vram c)
    ready-prefetched = at_address (next_address c.address) (next-in c.address) (ready-changed (buffer_to (get_or vram c.address 0)) (bytes c.address) tt ready)

    pub ready_read : Ready (after_data_read vram c)
    ready_read = first-dropped ready-prefetched

  pub ready-written : (x : ℕ) → x < 256 → Ready (data_written x c)
  ready-written x h = first-dropped (at_address (next_address c.address) (next-in c.address) (ready-changed (buffer_to x) h tt ready))

  pub ready-status-read : Ready (after_status_read c)
  ready-status-read = first-dropped (ready-changed (status_to (c.status % 32)) (omega arith) tt ready)

  pub ready-ended : Ready (display_ended c)
  ready-ended = ready-changed (status_to (set_bit 7 c.status)) (or_lt 8 c.status 128 ready.fits.status (lit< tt)) tt ready

pub ready-reset : {c : Chip} → Ready c → Ready (was_reset c)
ready-reset ready =
    let cleared = ready-changed (status_to 0) (lit< tt) tt (register-set (register-set ready 0 0 (lit< tt)) 1 0 (lit< tt)) in
    ready-changed (lost_to 0) (lit< tt) tt (ready-changed (redraw_to true) tt tt (nothing-waits cleared))

-- What holds of both holds of the one that is chosen.
module _ {A : Type 0} (P : A → Type 0) where
  pub either : (b : Bool) (x y : A) → P x → P y → P (cond b x y)
  either true x y p q = p
  either false x y p q = q

pub ready-control : {c : Chip} → Ready c → (vram : List ℕ) → Bytes vram → (x : ℕ) → x < 256 → Ready (control x vram c)
ready-control {c} ready vram bytes x h = by c.waiting ready.fits.waiting
  where
    by : (w : Option ℕ) → byte_of w < 256 → Ready (control_by w x vram c)
    by None small = ready-changed (waiting_to (Some x)) h tt ready
    by (Some a) small =
        let pair = at_address (x % 64 * 256 + a) (omega arith) (nothing-waits ready) in
        either Ready (leb 128 x) _ _ (ready-register pair (x % 8) a (omega arith)) (either Ready (ltb x 64) _ _ (ready-prefetched pair vram bytes) pair)

-- A choice of two numbers is a byte if each is, where it is chosen.
pub either-byte : (b : Bool) (x y : ℕ) → (b ≡ true → x < 256) → y < 256 → cond b x y < 256
either-byte true x y p q = p refl
either-byte false x y p q = q
