-- Single bits of a number, counted from the least significant.
use Rattle.std.specs.Prelude.{ℕ, ◌/◌, ◌%◌, ◌^◌, Bool, eqb}
use Rattle.std.specs.Int.Bits.{bit_or}

-- whether bit k of x is set
abbrev pub bit : ℕ → ℕ → Bool
bit k x = eqb (x / 2 ^ k % 2) 1

-- x with bit k set
abbrev pub set_bit : ℕ → ℕ → ℕ
set_bit k x = bit_or x (2 ^ k)
