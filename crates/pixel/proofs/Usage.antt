-- Wrongly called, the program writes its usage whatever the file is: so it need not read one.
use Prim.Native.Nat.{ℕ}
use mathlib.Core.Path.{◌≡◌, sym}
use mathlib.Core.Bool.{false}
use mathlib.Core.List.{List}
use Rattle.pixel.specs.Arguments.{rightly_called}
use Rattle.pixel.specs.Output.{usage_text, pixel_output}
use Rattle.pixel.proofs.Laws.Output.{usage-written}

pub whatever-the-file : (argc : ℕ) (first second : List ℕ) → rightly_called argc first second ≡ false → (file : List ℕ) → pixel_output argc first second file ≡ usage_text
whatever-the-file argc first second e file = sym (usage-written argc first second file e)
