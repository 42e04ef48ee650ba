-- `draw_plane_row` meets its contract.
use Prim.Native.Nat.{◌+◌, ◌*◌, ◌/◌, ◌%◌}
use Rattle.rows.proofs.Laws.Plane.{blank_part}
use Rattle.rows.proofs.draw.draw_plane_row.Goals as goal

pub returns-in-Blank : goal.returns-in-Blank
returns-in-Blank c =
    let filled = rw (c.behind_planes.ensures, c.told-part) at (c.fill.ensures.after (λ y e. e)) in
    rw c.in-Blank.is (blank_part 2048 c.args.brush.now.screen.registers c.args.brush.now.screen.vram.now (λ i. 8 * c.args.row + i / 256) (λ i. i % 256) filled)
