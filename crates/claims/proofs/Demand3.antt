-- Demand 3, over every list of calls.
use mathlib.Core.Path.{◌≡◌, sym, ap, subst⁻¹, ◌∙◌}
use mathlib.Core.Bool.{true}
use mathlib.Core.List.{List}
use borrow.Author.Tests.{eq-eqb}
use Rattle.std.specs.Prelude.{Ok}
use Rattle.chip.specs.Refusals.{refusal_of}
use Rattle.chip.proofs.Laws.Refusals.{all-accepted}
use Rattle.chip.proofs.Laws.Ready.{Ready}
use Rattle.claims.specs.Bench.{Bench, Lengths, Typed}
use Rattle.claims.specs.Call.{Op, full_draw, refresh, direct, Call, whole}
use Rattle.claims.specs.Description.{tests}
use Rattle.claims.specs.Descriptions.{described}
use Rattle.claims.specs.Step.{Step, step, run, CallsBytes}
use Rattle.claims.specs.After.{RefreshIsFullDraw}
use Rattle.claims.proofs.Laws.Invariant.{Invariant, drawn, refreshed-drawn}
use Rattle.claims.proofs.Laws.Calls.{lawful}
use Rattle.claims.proofs.Laws.Draws.{full-drawn, due-drawn}
use Rattle.claims.proofs.Laws.Steps.{accepted-step, step-establishes, run-keeps}

-- a full draw, directly and into lists of the right lengths, is accepted
full-draw : (b : Bench) → Ready b.chip → Lengths b → ((step b (whole full_draw direct)).reply.refusal ≡ 0) × ((step b (whole full_draw direct)).bench ≡ drawn b.chip b.vram)
unfolding step
full-draw b ready lengths =
    let ok : refusal_of (tests (described full_draw) b) ≡ Ok tt = all-accepted (tests (described full_draw) b) (eq-eqb _ _ lengths.vram, (eq-eqb _ _ lengths.map, (eq-eqb _ _ lengths.frame, (eq-eqb _ _ lengths.notes, (ready.well-formed, tt))))) in
    ((lawful full_draw).accepted b ok, full-drawn b ok)

-- an accepted refresh of a bench with the invariant leaves what a full draw leaves
refresh-drawn : (b : Bench) → Invariant b → (call : Call) → call.op ≡ refresh → (step b call).reply.refusal ≡ 0 → (step b call).bench ≡ drawn b.chip b.vram
refresh-drawn b inv call is accepted =
    let out = accepted-step b inv.ready.fits call is tt accepted in
    ap (λ (s : Step). s.bench) out.1 ∙ due-drawn b (all-accepted (tests (described refresh) b) out.0) ∙ refreshed-drawn inv

-- an accepted refresh of a bench with the invariant is a full draw
refresh-is-full-draw : (b : Bench) → Invariant b → RefreshIsFullDraw b
refresh-is-full-draw b inv last is-refresh accepted map frame notes hm hf hn =
    let elsewhere : Bench = record { chip = b.chip; vram = b.vram; map = map; frame = frame; notes = notes } in
    let full = full-draw elsewhere inv.ready (record { vram = inv.lengths.vram; map = hm; frame = hf; notes = hn }) in
    (full.0, refresh-drawn b inv last is-refresh accepted ∙ sym full.1)

-- What demand 3 says below, after any first call that establishes the invariant: a full draw, power-up, reset, or reading a
-- snapshot of bytes.
pub refresh-after-any-calls :
    (start : Bench) → Lengths start → Typed start
    → (first : Call) → (described first.op).establishes ≡ true → (described first.op).brings.AreBytes → (step start first).reply.refusal ≡ 0
    → (calls : List Call) → CallsBytes calls
    → RefreshIsFullDraw (run (step start first).bench calls)
refresh-after-any-calls start lengths typed first does brings accepted calls bytes =
    refresh-is-full-draw (run (step start first).bench calls) (run-keeps (step-establishes start lengths typed first does brings accepted) calls bytes)

-- Demand 3. Take a bench whose four lists have their lengths, whose state fits its types and whose VRAM holds bytes, and a full
-- draw of it that is accepted, called directly or from C. Take then any list of calls, of which nothing is asked but that the
-- bytes they bring are bytes: each may be lent the bench's lists or others of the wrong length, and be accepted or refused.
-- Take last a refresh, called directly or from C, that is accepted. It leaves the same bench (state, VRAM, map, frame and
-- notes) as a full draw from the same state and VRAM into any map, frame and notes of the right lengths, and that full draw is
-- accepted (RefreshIsFullDraw, specs/After.antt). With the bench's own map, frame and notes that is the full draw in place of
-- the refresh; from C a full draw is the same (from-c, RefusedCalls.antt).
--
-- It rests on `step` (specs/Step.antt), which applies to what was lent the definitions that the contracts of the calls
-- cite: so what it says of the definitions, the contracts say of the code.
pub demand-3 :
    (start : Bench) → Lengths start → Typed start
    → (first : Call) → first.op ≡ full_draw → (step start first).reply.refusal ≡ 0
    → (calls : List Call) → CallsBytes calls
    → RefreshIsFullDraw (run (step start first).bench calls)
demand-3 start lengths typed first is-full =
    refresh-after-any-calls start lengths typed first (ap (λ (op : Op). (described op).establishes) is-full) (subst⁻¹ (λ (op : Op). (described op).brings.AreBytes) is-full tt)
