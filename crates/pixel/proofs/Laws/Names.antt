-- How long the names are.
use Prim.Native.Nat.{ℕ, ◌≤◌, ◌%◌}
use native.Mathlib.Omega.{arith}
use mathlib.Core.Path.{◌≡◌, refl}
use mathlib.Core.Bool.{Bool, true}
use mathlib.Core.List.{[]}
use lib.Dec.{leb}
use lib.ListN.{length, get_or}
use borrow.Author.Tests.{leb-true}
use Rattle.chip.specs.Ranges.{all_below}
use Rattle.chip.proofs.Laws.Ranges.{each_holds}
use Rattle.pixel.specs.Names.{names, name_of}

short : ℕ → Bool
short k = leb (length (get_or names k [])) 12

all_short : all_below 16 short ≡ true
unfolding short
all_short = refl

-- no name is longer than `medium green`
pub name-short : (c : ℕ) → length (name_of c) ≤ 12
unfolding name_of short
name-short c = leb-true _ _ (each_holds 16 short all_short (c % 16) (omega arith))
