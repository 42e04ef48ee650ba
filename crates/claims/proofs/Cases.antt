-- Every case of the list holds: antt computes both sides of each equation.
use mathlib.Core.Path.{refl}
use Rattle.chip.specs.Lists.{tabulate}
use Rattle.chip.specs.Modes.{mode_of}
use Rattle.chip.specs.Ranges.{any_below}
use Rattle.chip.specs.State.{well_formed, masked}
use Rattle.fetches.specs.Fetch.{value, followed, each}
use Rattle.planes.specs.Cells.{name_address, pattern_address, colour_address, shape_of, cell_of}
use Rattle.planes.specs.Plane.{plane_colour}
use Rattle.sprites.specs.Scan.{sprite_of, scan_from, sprite_pattern_address}
use Rattle.sprites.specs.Pixels.{hits, coincidence}
use Rattle.scanline.specs.Line.{line_of, colour_at}
use Rattle.scanline.specs.Notes.{note_of, status_after}
use Rattle.claims.specs.Cases.{cases, AllHold}

pub all-cases : AllHold cases
unfolding tabulate mode_of any_below well_formed masked value followed each name_address pattern_address colour_address shape_of cell_of plane_colour sprite_of scan_from sprite_pattern_address hits coincidence line_of colour_at note_of status_after
all-cases = (
  refl,
  (
    refl,
    (
      refl,
      (
        refl,
        (
          refl,
          (
            (refl, refl),
            (
              (refl, refl, refl, refl),
              (
                (refl, refl),
                (
                  (refl, refl, refl),
                  (
                    refl,
                    (
                      (refl, refl),
                      (refl, tt),
                    ),
                  ),
                ),
              ),
            ),
          ),
        ),
      ),
    ),
  ),
)
