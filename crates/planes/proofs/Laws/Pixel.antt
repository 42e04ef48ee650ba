-- One of two colours, and what a byte that goes by it is.
use Prim.Native.Nat.{ℕ}
use mathlib.Core.Path.{◌≡◌}
use mathlib.Core.Bool.{Bool, true, false, cond}

pub cond_of : (f : ℕ → ℕ) (b : Bool) (high low : ℕ) {one zero : ℕ} → one ≡ f high → zero ≡ f low → cond b one zero ≡ f (cond b high low)
cond_of f true high low p q = p
cond_of f false high low p q = q
