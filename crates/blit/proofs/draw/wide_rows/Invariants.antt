-- `wide_rows` meets its contract.
use Prim.Native.Nat.{ℕ, ◌<◌}
use mathlib.Core.Path.{◌≡◌}
use lib.ListN.{length, get_or}
use Rattle.sprites.specs.Held.{no_sprite}
use Rattle.blit.specs.Wide.{no_wide, WideRow}
use Rattle.blit.proofs.draw.wide_rows.Given as goal

abbrev pub invariant-loop-k : goal.invariant-loop-k
invariant-loop-k l = record {
  long : length l.wides ≡ 4;
  own : (i : ℕ) → i < l.k → (get_or l.wides i no_wide).sprite ≡ get_or l.sprites i no_sprite;
  each : (i : ℕ) → i < l.k → WideRow l.r (get_or l.sprites i no_sprite) (get_or l.wides i no_wide).row;
}
