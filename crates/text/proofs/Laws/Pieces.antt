-- The pieces of steps, end to end.
use Prim.Native.Nat.{ℕ, suc}
use mathlib.Core.Path.{◌≡◌, ap, ◌∙◌}
use mathlib.Core.Bool.{true, false}
use mathlib.Core.List.{List, ◌++◌, append-nil}
use Rattle.text.specs.Pieces.{Step, Output, ahead, steps_from}

-- all of an output
abbrev pub wholly : List ℕ → Output
wholly bytes = record { bytes = bytes; whole = true }

module _ {W : Type 0} (step : W → Step W) (n : ℕ) (w : W) {s : Step W} (e : step w ≡ s) where
  one-step : steps_from step (suc n) w ≡ ahead s (steps_from step n s.walk)
  unfolding steps_from
  one-step = ap (λ (t : Step W). ahead t (steps_from step n t.walk)) e

  -- the last piece
  pub last_step : s.last ≡ true → steps_from step (suc n) w ≡ wholly s.bytes
  last_step l = one-step ∙ rw l (ap wholly (append-nil s.bytes))

  -- a piece before others
  pub more-steps : {rest : Output} → s.last ≡ false → steps_from step n s.walk ≡ rest → steps_from step (suc n) w ≡ record { bytes = s.bytes ++ rest.bytes; whole = rest.whole }
  more-steps l r = one-step ∙ rw l (ap (λ (o : Output). record { bytes = s.bytes ++ o.bytes; whole = o.whole }) r)
