-- What an accepted full draw and an accepted refresh leave.
use mathlib.Core.Path.{◌≡◌}
use mathlib.Core.List.{[], ◌∷◌}
use Rattle.std.specs.Prelude.{Ok}
use Rattle.chip.specs.Refusals.{refusal_of}
use Rattle.frame.specs.Due.{due_count}
use Rattle.claims.specs.Bench.{Bench}
use Rattle.claims.specs.Call.{full_draw, refresh}
use Rattle.claims.specs.Description.{tests}
use Rattle.claims.specs.Descriptions.{described}
use Rattle.claims.proofs.Laws.Invariant.{drawn, refreshed}
use Rattle.claims.proofs.Laws.Lawful.{bench_of}

pub full-drawn : (b : Bench) → refusal_of (tests (described full_draw) b) ≡ Ok tt → bench_of ((described full_draw).directly b) ≡ drawn b.chip b.vram
full-drawn b ok = rw ok

pub due-drawn : (b : Bench) → refusal_of (tests (described refresh) b) ≡ Ok tt → bench_of ((described refresh).directly b) ≡ refreshed b
due-drawn b ok = rw ok

pub due-counted : (b : Bench) → refusal_of (tests (described refresh) b) ≡ Ok tt → ((described refresh).directly b).reply.values ≡ due_count b.chip.redraw b.chip.registers b.vram b.map ∷ []
due-counted b ok = rw ok
