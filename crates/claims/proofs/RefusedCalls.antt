-- Refused calls, and calls from C.
use mathlib.Core.Path.{◌≡◌, refl, sym, ap, subst⁻¹, ◌∙◌}
use mathlib.Core.Bool.{true}
use Rattle.chip.specs.State.{Fits}
use Rattle.chip.specs.Refusals.{is_accepted}
use Rattle.chip.proofs.Laws.Refusals.{all-accepted, all_pass, differ}
use Rattle.claims.specs.Bench.{Bench}
use Rattle.claims.specs.Call.{own, direct, from_c, Call, made_by}
use Rattle.claims.specs.Description.{tests}
use Rattle.claims.specs.Descriptions.{described}
use Rattle.claims.specs.Step.{Step, step}
use Rattle.claims.specs.After.{LeftAsLent, wrongly_lent, FitNumbers, RightFromC}
use Rattle.claims.proofs.Laws.Calls.{lawful}
use Rattle.claims.proofs.Laws.Outcomes.{Outcome, accepted, refused, from-c-same}
use Rattle.claims.proofs.Laws.Steps.{step-outcome}

-- From C a call is the direct call: on every state that fits its types, well-formed or not, and lent whatever lists, a call
-- from C with the state's own block leaves the same bench and gives the same answer as the same call made directly. (RightFromC,
-- specs/After.antt, asks something of a point's colour and of the run of a log alone: bytes in VRAM, and of a run a slice of four bytes
-- for its outcome and bytes in the log too.)
pub from-c : (b : Bench) → Fits b.chip → (call : Call) → RightFromC call.op b.vram → step b (made_by (from_c own) call) ≡ step b (made_by direct call)
unfolding step
from-c b fits call right =
    let law = lawful call.op in
    from-c-same law call.lists b fits right.1 (all_pass (described call.op).from_c.tests (ap is_accepted right.0))

-- A refused call leaves the bench as it was, answers no number and leaves the slices that are its own: on every state that fits
-- its types, well-formed or not, and whatever was lent. (FitNumbers asks something of a point's colour and of a run from C alone: that
-- VRAM holds bytes, and the log too. That the outcome of a refused run is as lent too, the contract of the call from C says.)
pub refused-leaves : (b : Bench) → Fits b.chip → (call : Call) → FitNumbers call.caller (described call.op) b.vram → ((step b call).reply.refusal ≡ 0 → ⊥) → LeftAsLent b call (step b call)
refused-leaves b fits call numbers some = by (step-outcome b fits call numbers)
  where
    by : Outcome (described call.op) (wrongly_lent call) b (step b call) → LeftAsLent b call (step b call)
    by (accepted p given same) =
        let zero : ((described call.op).directly b).reply.refusal ≡ 0 = (lawful call.op).accepted b (all-accepted (tests (described call.op) b) p) in
        absurd (some (ap (λ (s : Step). s.reply.refusal) same ∙ zero))
    by (refused n not-zero same) = subst⁻¹ (LeftAsLent b call) same refl

-- A call that was lent a list of the wrong length in place of one that it takes, or a wrong block, is refused, and the next
-- call finds the bench as it was. (A list that the call does not take is not looked at.) `step` does not say so: it
-- applies the call's definition to what was lent. That the list lent in its place is left too, the call's contract says.
pub wrongly-lent : (b : Bench) → Fits b.chip → (call : Call) → FitNumbers call.caller (described call.op) b.vram → wrongly_lent call ≡ true → ((step b call).reply.refusal ≡ 0 → ⊥) × LeftAsLent b call (step b call)
wrongly-lent b fits call numbers wrong = (some, refused-leaves b fits call numbers some)
  where
    by : Outcome (described call.op) (wrongly_lent call) b (step b call) → (step b call).reply.refusal ≡ 0 → ⊥
    by (accepted p given same) zero = differ (sym wrong ∙ given)
    by (refused n not-zero same) zero = not-zero (sym (ap (λ (s : Step). s.reply.refusal) same) ∙ zero)

    some : (step b call).reply.refusal ≡ 0 → ⊥
    some = by (step-outcome b fits call numbers)
