-- The pieces that the steps write, put end to end, are the whole output.
--
-- Take any file: any list of bytes that came in. Read it by `start` into VRAM of 16,384 bytes, whatever these hold, and step
-- from there until a piece is the last. Then at most 193 steps write the last piece, and what they wrote, end to end, is
-- `show_output` of the file.
use Prim.Native.Nat.{ℕ}
use mathlib.Core.Path.{◌≡◌, refl}
use mathlib.Core.Bool.{true, false}
use mathlib.Core.List.{List}
use lib.ListN.{length, replicate}
use Rattle.chip.specs.State.{well_formed}
use Rattle.std.specs.Prelude.{Ok, Err}
use Rattle.chip.specs.Refusals.{Outcome, number_of, is_accepted}
use Rattle.chip.specs.declared.state.Chip.{Chip}
use Rattle.chip.proofs.Laws.Refusals.{differ}
use Rattle.snapshot.specs.Calls.{read_vram}
use Rattle.scanline.specs.Calls.{colours}
use Rattle.text.specs.Lines.{refused_text}
use Rattle.text.specs.Runs.{runs}
use Rattle.text.specs.Show.{lines_from, show_text}
use Rattle.text.specs.Output.{show_output}
use Rattle.text.specs.Pieces.{steps_from}
use Rattle.text.specs.Walk.{first_next, start_walk, step_of}
use Rattle.text.specs.declared.walk.Next.TheVariants.{Status}
use Rattle.text.specs.declared.walk.Walk.{Walk}
use Rattle.text.proofs.Laws.Pieces.{wholly, more-steps}
use Rattle.text.proofs.Laws.Steps.{step-refused, step-status}
use Rattle.text.proofs.Laws.Ranges.{walk_at, can-draw, ranges-written}
use Rattle.text.proofs.Laws.Reading.{from-file}

-- from the status line on, the steps write the text of state and VRAM
text-written : (vram : List ℕ) → length vram ≡ 16384 → (c : Chip) → well_formed c ≡ true → (range : List ℕ) → steps_from (step_of vram) 193 (walk_at c Status 0 0 range) ≡ wholly (show_text c vram)
unfolding show_text runs lines_from
text-written vram full c ok range =
    let w : Walk = walk_at c Status 0 0 range in
    more-steps (step_of vram) 192 w (step-status vram w refl (can-draw vram full c ok)) refl
    (ranges-written vram full c ok 191 1 0 0 1 (colours c.registers vram 0) refl refl refl)

-- after a refusal, its line
refused-first : (vram : List ℕ) (r : Outcome) (c : Chip) → is_accepted r ≡ false
    → step_of vram (walk_at c (first_next r) 0 0 (replicate 256 0)) ≡ record { bytes = refused_text (number_of r); walk = walk_at c (first_next r) 0 0 (replicate 256 0); last = true }
refused-first vram (Ok x) c e = absurd (differ e)
refused-first vram (Err n) c e = step-refused vram _ refl

pub end_to_end : (file vram : List ℕ) → length vram ≡ 16384
    → steps_from (step_of (read_vram vram file)) 193 (start_walk vram file) ≡ record { bytes = show_output file; whole = true }
end_to_end file vram full =
    from-file step_of (λ r c. walk_at c (first_next r) 0 0 (replicate 256 0)) show_text 192
    (λ v whole c ok. text-written v whole c ok (replicate 256 0))
    refused-first
    file vram full
