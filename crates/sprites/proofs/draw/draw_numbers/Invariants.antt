-- `draw_numbers`: the numbers to come over the line so far are all of them over the line as it was.
use Rattle.std.proofs.Common.{◌≡◌, ℕ, ◌<◌, length, get_or}
use Rattle.sprites.specs.Pixels.{visible, numbered_colours}
use Rattle.sprites.specs.Codes.{first_number}
use Rattle.sprites.proofs.draw.draw_numbers.Given as goal

abbrev pub invariant-loop-s : goal.invariant-loop-s
invariant-loop-s l =
    record {
      long : length l.origins ≡ 256;
      shown :
          (x : ℕ)
          → x < 256
          → first_number (numbered_colours l.fn.scan.registers l.s-iterator.iter.rest.now (visible x)) (get_or l.origins x 0)
          ≡ first_number (numbered_colours l.fn.scan.registers l.initial.s-iterator.iter.rest.now (visible x)) (get_or l.initial.origins x 0);
    }
