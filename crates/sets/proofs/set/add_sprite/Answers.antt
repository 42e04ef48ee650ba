-- `add_sprite`: the lines of the sprite are one run, or are taken one by one.
use Rattle.std.proofs.Common.{◌≡◌, ℕ, ◌+◌, ◌*◌, ◌%◌, ◌^◌, ◌<◌, ◌≤◌, List, ◌++◌, length, get_or, take, drop, arith}
use lib.Bits.{bit_or}
use Rattle.sprites.specs.Shape.{side}
use Rattle.chip.proofs.Laws.Bits.{one_shifted}
use Rattle.sets.proofs.Laws.Added.{Added}
use Rattle.sets.proofs.Laws.Run.{added-run}
use Rattle.sets.proofs.set.add_sprite.Goals as goal

-- by the run that was lent, from s on
run-of : (old part : List ℕ) (y one s d w : ℕ) → length part ≡ length (take w (drop s old)) → ((i : ℕ) → i < length (take w (drop s old)) → get_or part i 0 ≡ bit_or (get_or (take w (drop s old)) i 0) one) → y < 256 → s ≡ (y + 1) % 256 → s + d ≤ 192 → length old ≡ 192 → w ≡ d → Added old (take s old ++ (part ++ drop w (drop s old))) y one d
run-of old part y one s d w long each small below low all ew = added-run old part y one s d w small below low all ew long each

pub returns-then-first-height-le192 : goal.returns-then-first-height-le192
returns-then-first-height-le192 c =
    let a = c.args in
    let added = run-of a.sets.now c.add_run.new.part a.y (1 * 2 ^ a.n % 4294967296) _ (side a.r) _ c.add_run.ensures.part_len_unchanged c.add_run.ensures.by_index (omega arith) (omega arith) (omega (arith, c.side-height.ensures)) c.told-sets (omega (arith, c.side-height.ensures)) in
    rw (one_shifted 32 a.n c.requires) at added.line
