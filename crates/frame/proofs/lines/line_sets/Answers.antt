-- `line_sets` meets its contract.
use Prim.Native.Nat.{ℕ}
use mathlib.Core.Path.{◌≡◌, sym, ◌∙◌}
use lib.ListN.{length-replicate, get_or-replicate}
use Rattle.chip.specs.Modes.{mode_of}
use Rattle.chip.proofs.Laws.Refusals.{differ}
use Rattle.scanline.specs.Line.{has_sprites}
use Rattle.frame.proofs.lines.line_sets.Goals as goal

pub returns : goal.returns
returns c =
    let shows : c.has_sprites.result ≡ has_sprites (mode_of c.args.screen.registers) = rw c.requires at c.has_sprites.ensures in
    let none = sym (shows) ∙ c.if-has_sprites.false in
    record {
      long = length-replicate {A = ℕ} 192 0;
      line = λ l below. record { some = λ e. absurd (differ (sym e ∙ none)); none = λ e. get_or-replicate 192 l 0 0 below };
    }
