-- `pixel` meets its contract: a file that is refused.
use Prim.Native.Nat.{ℕ}
use mathlib.Core.Path.{◌≡◌, refl, sym, ap, ◌∙◌}
use mathlib.Core.List.{List}
use lib.ListN.{length}
use Rattle.chip.specs.Lists.{put_at}
use Rattle.chip.specs.Ports.{cleared_vram}
use Rattle.chip.specs.Refusals.{refusal_number}
use Rattle.chip.specs.State.{power_up_state}
use Rattle.chip.specs.declared.refusal.Answer.{Answer}
use Rattle.snapshot.specs.Calls.{read_refusal, read_snapshot}
use Rattle.text.specs.Lines.{refused_text}
use Rattle.text.proofs.Laws.Reading.{refusal-given}
use Rattle.pixel.specs.Output.{pixel_output}
use Rattle.pixel.proofs.Laws.Output.{file-refused}
use Rattle.pixel.proofs.output.pixel.Goals as goal
use Rattle.pixel.proofs.output.pixel.Goals.{In-Err}

refused : (c : In-Err) → refused_text (refusal_number c.in-Err.refusal) ≡ pixel_output c.args.argc c.args.first.now c.args.second.now c.args.file.now
refused c =
    let read : c.read-read.result ≡ read_snapshot power_up_state cleared_vram c.args.file.now = rw c.power_up_state.ensures at c.read-read.ensures.value in
    let r = refusal-given (read_refusal cleared_vram c.args.file.now) 0 (sym (ap (λ (a : Answer). a.result) read) ∙ c.in-Err.is) in
    file-refused c.args.argc c.args.first.now c.args.second.now c.args.file.now (sym c.rightly_called.ensures ∙ c.if-not-rightly_called.false) r refl

pub returns-in-Err-clause-value : goal.returns-in-Err-clause-value
returns-in-Err-clause-value c = c.put_refusal.ensures.value ∙ ap length (refused (goal.at.returns-in-Err-clause-value c).In-Err)

pub returns-in-Err-clause-out_after : goal.returns-in-Err-clause-out_after
returns-in-Err-clause-out_after c = c.put_refusal.ensures.out_after ∙ ap (λ (s : List ℕ). put_at 0 s c.args.out.now) (refused (goal.at.returns-in-Err-clause-out_after c).In-Err)
