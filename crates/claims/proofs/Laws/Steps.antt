-- The step of each call: how it comes out, and that it keeps the invariant or establishes it.
use Prim.Native.Nat.{ℕ}
use mathlib.Core.Path.{◌≡◌, refl, sym, ap, subst, subst⁻¹, ◌∙◌}
use mathlib.Core.Bool.{Bool, true}
use mathlib.Core.List.{List, [], ◌∷◌}
use Rattle.chip.specs.State.{Fits}
use Rattle.chip.proofs.Laws.Refusals.{AllPass, all-accepted}
use Rattle.claims.specs.Bench.{Bench, Lengths, Typed}
use Rattle.claims.specs.Call.{Op, Caller, direct, from_c, Call}
use Rattle.claims.specs.Description.{Description, tests}
use Rattle.claims.specs.Descriptions.{described}
use Rattle.claims.specs.Step.{Step, step, run, CallsBytes}
use Rattle.claims.specs.After.{wrongly_lent, FitNumbers}
use Rattle.claims.proofs.Laws.Invariant.{Invariant, Effect, keeps, establish}
use Rattle.claims.proofs.Laws.Lawful.{bench_of}
use Rattle.claims.proofs.Laws.Calls.{lawful}
use Rattle.claims.proofs.Laws.Outcomes.{stepped, Outcome, accepted, refused, outcome}

pub step-outcome : (b : Bench) → Fits b.chip → (call : Call) → FitNumbers call.caller (described call.op) b.vram → Outcome (described call.op) (wrongly_lent call) b (step b call)
unfolding step
step-outcome b fits call numbers = outcome (lawful call.op) call.lists b fits call.caller numbers

-- numbers that fit from C fit for every caller
fit-for : (caller : Caller) (d : Description) (vram : List ℕ) → d.from_c.NumbersFit vram → FitNumbers caller d vram
fit-for direct d vram fit = tt
fit-for (from_c block) d vram fit = fit

-- An accepted call is the direct call on the bench itself.
pub accepted-step : (b : Bench) → Fits b.chip → (call : Call) {op : Op} → call.op ≡ op → (described op).from_c.NumbersFit b.vram → (step b call).reply.refusal ≡ 0 → AllPass (tests (described op) b) × (step b call ≡ stepped ((described op).directly b))
accepted-step b fits call {op} is numbers zero = by (step-outcome b fits call (fit-for call.caller (described call.op) b.vram (subst⁻¹ (λ (k : Op). (described k).from_c.NumbersFit b.vram) is numbers)))
  where
    by : Outcome (described call.op) (wrongly_lent call) b (step b call) → AllPass (tests (described op) b) × (step b call ≡ stepped ((described op).directly b))
    by (accepted p own same) = (subst (λ (k : Op). AllPass (tests (described k) b)) is p, same ∙ ap (λ (k : Op). stepped ((described k).directly b)) is)
    by (refused n some same) = absurd (some (sym (ap (λ (s : Step). s.reply.refusal) same) ∙ zero))

effect : (b : Bench) → Lengths b → Typed b → (op : Op) → (described op).brings.AreBytes → AllPass (tests (described op) b) → Effect (described op).establishes b (bench_of ((described op).directly b))
effect b lengths typed op bytes p = (lawful op).effect b bytes lengths typed p (all-accepted (tests (described op) b) p)

pub step_keeps : {b : Bench} → Invariant b → (call : Call) → (described call.op).brings.AreBytes → Invariant (step b call).bench
step_keeps {b} inv call bytes = by (step-outcome b inv.ready.fits call (fit-for call.caller (described call.op) b.vram ((lawful call.op).only-from-c.numbers_fit b.vram inv.bytes bytes)))
  where
    by : Outcome (described call.op) (wrongly_lent call) b (step b call) → Invariant (step b call).bench
    by (accepted p own same) =
        subst⁻¹ (λ (s : Step). Invariant s.bench) same
        (keeps inv (effect b inv.lengths (record { chip = inv.ready.fits; vram = inv.bytes }) call.op bytes p))
    by (refused n some same) = subst⁻¹ (λ (s : Step). Invariant s.bench) same inv

pub run-keeps : {b : Bench} → Invariant b → (calls : List Call) → CallsBytes calls → Invariant (run b calls)
unfolding run
run-keeps inv [] bytes = inv
run-keeps {b = b} inv (call ∷ calls) bytes = run-keeps {b = (step b call).bench} (step_keeps inv call bytes.0) calls bytes.1

pub step-establishes : (b : Bench) → Lengths b → Typed b → (call : Call) → (described call.op).establishes ≡ true → (described call.op).brings.AreBytes → (step b call).reply.refusal ≡ 0 → Invariant (step b call).bench
step-establishes b lengths typed call does bytes zero =
    let out = accepted-step b typed.chip call refl ((lawful call.op).only-from-c.numbers_fit b.vram typed.vram bytes) zero in
    let after = bench_of ((described call.op).directly b) in
    subst⁻¹ (λ (s : Step). Invariant s.bench) out.1
    (establish lengths typed (subst (λ (e : Bool). Effect e b after) does (effect b lengths typed call.op bytes out.0)))
