-- `put_long_decimal` meets its contract.
use Prim.Native.Nat.{◌≤◌, ◌/◌, ◌%◌}
use native.Mathlib.Omega.{arith}
use lib.ListN.{length}
use Rattle.text.specs.Numbers.{three_digits, decimal}
use Rattle.text.proofs.Laws.Numbers.{thousands-first}
use Rattle.text.proofs.Laws.Put.{after}
use Rattle.text.proofs.numbers.put_long_decimal.Goals as goal

pub returns-clause-out_after : goal.returns-clause-out_after
returns-clause-out_after c =
    let n = c.args.n in
    let low : 1000 ≤ n = omega arith in
    let h : c.args.at ≤ length c.args.out.now = omega arith in
    rw (thousands-first n low) ((after c.args.out.now c.args.at (decimal (n / 1000)) (three_digits (n % 1000)) h (c.put_decimal-thousands.ensures.value, c.put_decimal-thousands.ensures.out_after) (c.put_three_digits.ensures.value, c.put_three_digits.ensures.out_after)).1)
