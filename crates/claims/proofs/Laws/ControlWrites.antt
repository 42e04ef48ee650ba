-- What a control write does to registers and redraw mark.
use Prim.Native.Nat.{ℕ, ◌+◌, ◌*◌, ◌%◌}
use mathlib.Core.Path.{◌≡◌, refl, ap, ◌∙◌}
use mathlib.Core.Bool.{Bool, true, false, cond, not, ◌||◌}
use mathlib.Core.List.{List}
use lib.Dec.{eqb, leb, ltb}
use lib.ListN.{length, set, length-set}
use lib.Seq.{set-get_or}
use borrow.Author.Tests.{eqb-true}
use Rattle.std.specs.Prelude.{Option, None, Some}
use Rattle.chip.specs.State.{kept, register, with_address, with_waiting}
use Rattle.chip.specs.Ports.{register_written, control_by, control}
use Rattle.chip.specs.declared.state.Chip.{Chip}
use Rattle.chip.proofs.Laws.Ranges.{or-false, or-true}

-- From c to d registers and redraw mark stay, or the mark is set.
pub data Redraws (c d : Chip) : Type 0 where
  no_line : d.registers ≡ c.registers → d.redraw ≡ c.redraw → Redraws c d
  every-line : d.redraw ≡ true → Redraws c d

either-redraws : {c d e : Chip} (b : Bool) → Redraws c d → Redraws c e → Redraws c (cond b d e)
either-redraws true p q = p
either-redraws false p q = q

-- A register that keeps its value is not altered; one that is altered sets the redraw mark.
register-redraws : (n a : ℕ) (c : Chip) → Redraws c (register_written n a c)
register-redraws n a c = by (eqb (kept n a) (register n c.registers)) refl
  where
    by : (b : Bool) → eqb (kept n a) (register n c.registers) ≡ b → Redraws c (register_written n a c)
    by true e =
        no_line (ap (set c.registers n) (eqb-true _ _ e) ∙ set-get_or c.registers n 0) (ap (λ (b : Bool). c.redraw || not b) e ∙ or-false c.redraw)
    by false e = every-line (ap (λ (b : Bool). c.redraw || not b) e ∙ or-true c.redraw)

-- the address of a pair does not matter to lines
abbrev pair : ℕ → ℕ → Chip → Chip
pair x a c = with_address (x % 64 * 256 + a) (with_waiting None c)

after-pair : (x a : ℕ) (c : Chip) {d : Chip} → Redraws (pair x a c) d → Redraws c d
after-pair x a c (no_line r m) = no_line r m
after-pair x a c (every-line m) = every-line m

pub control-redraws : (x : ℕ) (vram : List ℕ) (c : Chip) → Redraws c (control x vram c)
control-redraws x vram c = by c.waiting
  where
    by : (w : Option ℕ) → Redraws c (control_by w x vram c)
    by None = no_line refl refl
    by (Some a) =
        either-redraws (leb 128 x) (after-pair x a c (register-redraws (x % 8) a (pair x a c))) (either-redraws (ltb x 64) (no_line refl refl) (no_line refl refl))

-- A control write leaves eight registers.
record Eight (c : Chip) : Type 0 where
  is : length c.registers ≡ 8

either-eight : (b : Bool) {c d : Chip} → Eight c → Eight d → Eight (cond b c d)
either-eight true p q = p
either-eight false p q = q

pub control-eight : (x : ℕ) (vram : List ℕ) (c : Chip) → length c.registers ≡ 8 → length (control x vram c).registers ≡ 8
control-eight x vram c e = (by c.waiting).is
  where
    by : (w : Option ℕ) → Eight (control_by w x vram c)
    by None = record { is = e }
    by (Some a) = either-eight (leb 128 x) (record { is = length-set c.registers (x % 8) (kept (x % 8) a) ∙ e }) (either-eight (ltb x 64) (record { is = e }) (record { is = e }))
