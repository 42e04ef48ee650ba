-- `draw_plane_line` meets its contract.
use Rattle.rows.proofs.Laws.Line.{line-all}
use Rattle.rows.proofs.Laws.Plane.{blank_part}
use Rattle.rows.proofs.line.draw_plane_line.Goals as goal

pub returns-in-Blank : goal.returns-in-Blank
returns-in-Blank c =
    let filled = rw (c.behind_planes.ensures, c.told-line) at (c.fill.ensures.after (λ y e. e)) in
    rw c.in-Blank.is (blank_part 256 c.args.brush.now.screen.registers c.args.brush.now.screen.vram.now (λ x. c.args.l) (λ x. x) filled)

pub returns-in-GraphicsI : goal.returns-in-GraphicsI
returns-in-GraphicsI c = rw c.in-GraphicsI.is (line-all c.draw_line_cells.ensures)

pub returns-in-GraphicsII : goal.returns-in-GraphicsII
returns-in-GraphicsII c = rw c.in-GraphicsII.is (line-all c.draw_line_cells-in-GraphicsII.ensures)

pub returns-in-Multicolor : goal.returns-in-Multicolor
returns-in-Multicolor c = rw c.in-Multicolor.is (line-all c.draw_line_cells-in-Multicolor.ensures)
