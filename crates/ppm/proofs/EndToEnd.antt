-- The pieces that the steps write, put end to end, are the whole output.
--
-- Take any file: any list of bytes that came in. Read it by `start` into VRAM of 16,384 bytes, whatever these hold, and step
-- from there until a piece is the last. Then at most 193 steps write the last piece, and what they wrote, end to end, is
-- `picture_output` of the file.
use Prim.Native.Nat.{ℕ, zero, suc, ◌+◌}
use native.Mathlib.Numerals.{add-one}
use native.Mathlib.Omega.{arith}
use mathlib.Core.Path.{◌≡◌, refl, sym, ap, ◌∙◌}
use mathlib.Core.Bool.{true, false}
use mathlib.Core.List.{List, [], ◌++◌, append-nil, append_assoc}
use lib.ListN.{length}
use borrow.Author.Tests.{eq-eqb, ne_eqb}
use Rattle.chip.specs.State.{well_formed}
use Rattle.std.specs.Prelude.{Ok, Err}
use Rattle.chip.specs.Refusals.{Outcome, number_of, is_accepted}
use Rattle.chip.specs.declared.state.Chip.{Chip}
use Rattle.chip.proofs.Laws.Refusals.{differ}
use Rattle.scanline.specs.Calls.{colours}
use Rattle.frame.specs.Lines.{lines_end_to_end}
use Rattle.snapshot.specs.Calls.{read_vram}
use Rattle.text.specs.Lines.{refused_text}
use Rattle.text.specs.Pieces.{steps_from}
use Rattle.text.proofs.Laws.Pieces.{wholly, last_step, more-steps}
use Rattle.text.proofs.Laws.Reading.{from-file}
use Rattle.ppm.specs.declared.walk.Next.{Next}
use Rattle.ppm.specs.declared.walk.Next.TheVariants.{Header, Line}
use Rattle.ppm.specs.declared.walk.Walk.{Walk}
use Rattle.ppm.specs.Picture.{painted, picture_of, picture_output}
use Rattle.ppm.specs.Walk.{first_next, start_walk, step_of}
use Rattle.ppm.proofs.Laws.Paint.{painted-append}
use Rattle.ppm.proofs.Laws.Steps.{step_by, writes_line, line-accepted}

abbrev walk_at : Next → Chip → Walk
walk_at next c = record { next = next; chip = c }

-- the pixels of k lines from line l on
pixels_from : (ℕ → List ℕ) → ℕ → ℕ → List ℕ
pixels_from f l zero = []
pixels_from f l (suc k) = painted (f l) ++ pixels_from f (l + 1) k

-- behind those of the lines before, they are the pixels of the lines end to end
pixels-are : (f : ℕ → List ℕ) (k l : ℕ) → painted (lines_end_to_end l f) ++ pixels_from f l k ≡ painted (lines_end_to_end (l + k) f)
unfolding pixels_from lines_end_to_end
pixels-are f zero l = let end : l ≡ l + 0 = omega arith in append-nil _ ∙ ap (λ (n : ℕ). painted (lines_end_to_end n f)) end
pixels-are f (suc k) l =
    let end : l + 1 + k ≡ l + suc k = omega arith in
    sym (append_assoc (painted (lines_end_to_end l f)) (painted (f l)) (pixels_from f (l + 1) k))
    ∙ ap (λ (t : List ℕ). t ++ pixels_from f (l + 1) k) (sym (painted-append (lines_end_to_end l f) (f l)) ∙ ap (λ (n : ℕ). painted (lines_end_to_end n f)) (sym (add-one l)))
    ∙ pixels-are f k (l + 1)
    ∙ ap (λ (n : ℕ). painted (lines_end_to_end n f)) end

no_line : (f : ℕ → List ℕ) (rest : List ℕ) → painted (lines_end_to_end 0 f) ++ rest ≡ rest
unfolding painted lines_end_to_end
no_line f rest = refl

module _ (vram : List ℕ) (full : length vram ≡ 16384) (c : Chip) (ok : well_formed c ≡ true) where
  abbrev lines : ℕ → List ℕ
  lines = colours c.registers vram

  -- from line l on, the steps write the pixels of what is left of the 192 lines
  lines-written : (k l : ℕ) → l + suc k ≡ 192 → steps_from (step_of vram) (suc k) (walk_at (Line l) c) ≡ wholly (pixels_from lines l (suc k))
  unfolding pixels_from
  lines-written zero l h =
      let w : Walk = walk_at (Line l) c in
      let e : step_of vram w ≡ writes_line vram w l = step_by vram w refl ∙ line-accepted vram w l full ok (omega arith) in
      last_step (step_of vram) 0 w e (eq-eqb l 191 (omega arith)) ∙ ap wholly (sym (append-nil (painted (lines l))))
  lines-written (suc k) l h =
      let w : Walk = walk_at (Line l) c in
      let e : step_of vram w ≡ writes_line vram w l = step_by vram w refl ∙ line-accepted vram w l full ok (omega arith) in
      more-steps (step_of vram) (suc k) w e (ne_eqb l 191 (λ is. omega arith)) (lines-written k (l + 1) (omega arith))

  -- from the header on, they write the picture
  picture-written : steps_from (step_of vram) 193 (walk_at Header c) ≡ wholly (picture_of c vram)
  unfolding picture_of
  picture-written =
      let w : Walk = walk_at Header c in
      let all : pixels_from lines 0 192 ≡ painted (lines_end_to_end 192 lines) = sym (no_line lines (pixels_from lines 0 192)) ∙ pixels-are lines 192 0 in
      more-steps (step_of vram) 192 w (step_by vram w refl) refl
      (lines-written 191 0 refl ∙ ap wholly all)

-- after a refusal, its line
refused-first : (vram : List ℕ) (r : Outcome) (c : Chip) → is_accepted r ≡ false
    → step_of vram (walk_at (first_next r) c) ≡ record { bytes = refused_text (number_of r); walk = walk_at (first_next r) c; last = true }
refused-first vram (Ok x) c e = absurd (differ e)
refused-first vram (Err n) c e = step_by vram _ refl

pub end_to_end : (file vram : List ℕ) → length vram ≡ 16384
    → steps_from (step_of (read_vram vram file)) 193 (start_walk vram file) ≡ record { bytes = picture_output file; whole = true }
end_to_end file vram full =
    from-file step_of (λ r c. walk_at (first_next r) c) picture_of 192
    picture-written
    refused-first
    file vram full
