-- `scan_by_set` meets its contract.
use Rattle.std.proofs.Common.{◌≡◌, ℕ, ◌^◌, ◌<◌, arith}
use lib.Count.{count_trailing_zeros}
use Rattle.sets.proofs.Laws.Bits.{Lowest, lowest}
use Rattle.sets.proofs.Laws.Scan.{settled-none, settled-fifth, settled-draw, next-covers}
use Rattle.sets.proofs.scan.scan_by_set.Goals as goal
use Rattle.sets.proofs.scan.scan_by_set.Goals.{then-left-eq0, else-left-eq0+then-drawn-eq4}

-- The next sprite is the lowest of those that are left.
next : {left : ℕ} → (left ≡ 0 → ⊥) → left < 2 ^ 32 → Lowest left (count_trailing_zeros 32 left) × (count_trailing_zeros 32 left < 32)
next {left} some small = lowest 32 left (omega arith) small

pub sprite_of-requires : goal.sprite_of-requires
sprite_of-requires c =
    let t = next c.if-left-eq0.false c.loop-left.invariant.small in
    (rw c.attribute_address.ensures (next-covers c.args.screen.registers c.args.screen.vram.now c.args.l c.args.set c.requires c.loop-left.invariant t.0 t.1), t.1)

pub loop-left-preserved : goal.loop-left-preserved
loop-left-preserved c =
    let few : c.loop-left.drawn < 4 = omega (arith, c.loop-left.invariant.going.held.few, c.if-drawn-eq4.false) in
    let t = next c.if-left-eq0.false c.loop-left.invariant.small in
    let drawn = rw c.attribute_address.ensures at c.sprite_of.ensures.value in
    settled-draw c.args.screen.registers c.args.screen.vram.now c.args.l c.args.set c.requires c.loop-left.invariant t.0 t.1 c.sprite_of.result drawn c.sprite_of.ensures.as_read few

pub returns : goal.returns
returns c =
    let r = c.args.screen.registers in
    let vram = c.args.screen.vram.now in
    let s = c.loop-left.invariant in
    elim c.if-left-eq0.branch [
      | then-left-eq0 w ↦ rw w.ended-is (settled-none r vram c.args.l c.args.set c.requires s _ w.if-left-eq0.true)
      | else-left-eq0+then-drawn-eq4 w ↦
          let t = next w.if-left-eq0.false s.small in
          rw w.ended-is (settled-fifth r vram c.args.l c.args.set c.requires s t.0 t.1 _ w.if-drawn-eq4.true)
    ]
