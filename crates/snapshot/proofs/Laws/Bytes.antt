-- Lists of bytes.
use Rattle.std.proofs.Common.{ℕ, zero, suc, ◌+◌, ◌<◌, List, [], ◌∷◌, ◌++◌, take, drop, arith, lit<, get_or-drop}
use mathlib.Core.Path.{subst⁻¹}
use Rattle.chip.specs.State.{Bytes, Fits, flag_of, byte_of}
use Rattle.chip.specs.TwoBytes.{low_first}
use Rattle.chip.specs.Layout.{encoded}
use Rattle.chip.specs.declared.state.Chip.{Chip}
use Rattle.std.specs.Prelude.{Option, None, Some}
use Rattle.chip.proofs.Laws.Lists.{bytes_take}
use Rattle.chip.proofs.Laws.TwoBytes.{bytes_low_first}
use Rattle.snapshot.specs.Format.{trailer_of, snapshot_of}

-- that each number of a list is a byte
AllBytes : List ℕ → Type 0
AllBytes [] = Unit {0}
AllBytes (x ∷ l) = (x < 256) × AllBytes l

each : (l : List ℕ) → AllBytes l → Bytes l
unfolding AllBytes
each [] h i = lit< tt
each (x ∷ l) h zero = h.0
each (x ∷ l) h (suc i) = each l h.1 i

pub both : (p q : List ℕ) → Bytes p → Bytes q → Bytes (p ++ q)
both [] q bp bq i = bq i
both (x ∷ p) q bp bq zero = bp 0
both (x ∷ p) q bp bq (suc i) = both p q (λ j. bp (suc j)) bq i

bytes_drop : (n : ℕ) (l : List ℕ) → Bytes l → Bytes (drop n l)
bytes_drop n l b i = subst⁻¹ (λ (x : ℕ). x < 256) (get_or-drop n l i 0) (b (n + i))

-- a part of a list of bytes
pub bytes-part : (k n : ℕ) (l : List ℕ) → Bytes l → Bytes (take n (drop k l))
bytes-part k n l b = bytes_take n (drop k l) (bytes_drop k l b)

flag-byte : (w : Option ℕ) → flag_of w < 256
flag-byte None = lit< tt
flag-byte (Some a) = lit< tt

bytes-encoded : (c : Chip) → Fits c → Bytes (encoded c)
unfolding AllBytes
bytes-encoded c fits =
    let rest : List ℕ = c.buffer ∷ flag_of c.waiting ∷ byte_of c.waiting ∷ c.status ∷ [] in
    both c.registers (low_first c.address ++ rest) fits.registers
    (both (low_first c.address) rest (bytes_low_first c.address fits.address)
    (each rest (fits.buffer, (flag-byte c.waiting, (fits.waiting, (fits.status, tt))))))

-- A snapshot consists of bytes.
pub bytes-snapshot : (c : Chip) (vram : List ℕ) → Fits c → Bytes vram → Bytes (snapshot_of c vram)
unfolding AllBytes snapshot_of
bytes-snapshot c vram fits bv =
    both vram (encoded c ++ trailer_of c vram) bv
    (both (encoded c) (trailer_of c vram) (bytes-encoded c fits)
    (each (trailer_of c vram) (lit< tt, (lit< tt, (lit< tt, (lit< tt, (lit< tt, (lit< tt, (omega arith, (omega arith, tt))))))))))
