-- Where the walk starts, by how reading the file was answered.
use Prim.Native.Nat.{ℕ}
use mathlib.Core.Path.{◌≡◌, refl, ap, ◌∙◌}
use mathlib.Core.List.{List}
use Rattle.std.specs.Prelude.{Ok, Err}
use Rattle.chip.specs.State.{power_up_state}
use Rattle.chip.specs.Refusals.{Outcome, giving}
use Rattle.chip.specs.declared.refusal.Answer.{Answer}
use Rattle.snapshot.specs.Calls.{read_refusal, read_snapshot}
use Rattle.ppm.specs.declared.walk.Next.{Next}
use Rattle.ppm.specs.Walk.{first_next, start_walk}

-- what is first follows from the tests alone
first-given : (r : Outcome) (v : ℕ) → first_next (giving r v) ≡ first_next r
first-given (Ok x) v = refl
first-given (Err n) v = refl

pub started : (vram file : List ℕ) {a : Answer} {next : Next} → a ≡ read_snapshot power_up_state vram file → next ≡ first_next a.result → record { next = next; chip = a.chip } ≡ start_walk vram file
started vram file e f =
    let next = f ∙ ap (λ (a : Answer). first_next a.result) e ∙ first-given (read_refusal vram file) 0 in
    λ i. record { next = next i; chip = (e i).chip }
