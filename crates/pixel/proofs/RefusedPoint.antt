-- Which files and points are refused, and with which number.
--
-- Rightly called, the program writes what one list of tests decides, in the one order of tests: those of the snapshot (5, 6, 7,
-- 3) and of the two numbers (4, 13). Where none fails it writes the point's colour, and where that comes from, in the state and VRAM
-- that the snapshot holds.
use Prim.Native.Nat.{ℕ}
use mathlib.Core.Path.{◌≡◌, refl, sym, ap, ap₂, ◌∙◌}
use mathlib.Core.Bool.{Bool, true, false}
use mathlib.Core.List.{List, [], ◌∷◌, ◌++◌}
use lib.Dec.{eqb, leb}
use lib.ListN.{length, length-replicate}
use borrow.Author.Tests.{eq-eqb}
use Rattle.std.specs.Prelude.{Ok}
use Rattle.chip.specs.Ports.{cleared_vram}
use Rattle.chip.specs.Refusals.{Outcome, number_of, is_accepted, if_accepted, Test, vram_test, state_test, refusal_of}
use Rattle.chip.specs.State.{power_up_state, well_formed}
use Rattle.chip.specs.declared.refusal.Refusal.{Refusal}
use Rattle.chip.specs.declared.refusal.Refusal.TheVariants.{SnapshotLength, Trailer, Checksum, IllFormed, LineNumber, ColumnNumber}
use Rattle.chip.specs.declared.state.Chip.{Chip}
use Rattle.chip.proofs.Laws.Refusals.{differ, passed, is-accepted, the-new}
use Rattle.point.specs.Calls.{point_own_tests, point_refusal}
use Rattle.snapshot.specs.Tests.{vram_bytes, held_state, points_back, sum_right, size_test, trailer_test, sum_test, contents_test}
use Rattle.snapshot.specs.Calls.{file_tests, read_refusal}
use Rattle.snapshot.proofs.Laws.Parts.{length-vram}
use Rattle.snapshot.proofs.Laws.Refusals.{Readable, accepted-readable}
use Rattle.text.specs.Lines.{refused_text}
use Rattle.pixel.specs.Arguments.{number_in, rightly_called}
use Rattle.pixel.specs.Output.{shown_text, point_text, pixel_output}
use Rattle.pixel.proofs.Laws.Output.{refused-line, file-refused, point-written}

-- the tests of a file, and then those of the numbers, by whether each passes
abbrev test : Refusal → Bool → Test
test r p = record { refusal = r; passes = p }

abbrev of_file : Bool → Bool → Bool → Bool → List Test → List Test
of_file a b c d more = test SnapshotLength a ∷ test Trailer b ∷ test Checksum c ∷ test IllFormed d ∷ more

abbrev of_numbers : Bool → Bool → List Test
of_numbers e f = test LineNumber e ∷ test ColumnNumber f ∷ []

-- those of the file decide, if one of them fails
file-first : (a b c d e f : Bool) → is_accepted (refusal_of (of_file a b c d [])) ≡ false → refusal_of (of_file a b c d (of_numbers e f)) ≡ refusal_of (of_file a b c d [])
file-first false b c d e f n = refl
file-first true false c d e f n = refl
file-first true true false d e f n = refl
file-first true true true false e f n = refl
file-first true true true true e f n = absurd (differ n)

module _ (argc : ℕ) (first second file : List ℕ) (right : rightly_called argc first second ≡ true) where
  abbrev pub l : ℕ
  l = number_in first

  abbrev pub x : ℕ
  x = number_in second

  -- the first refusal of all tests
  abbrev pub given : Outcome
  given = refusal_of (file_tests file ++ point_own_tests l x)

  -- reading makes the tests of the file: VRAM has its length
  of-reading : read_refusal cleared_vram file ≡ refusal_of (file_tests file)
  of-reading = passed (vram_test cleared_vram) (file_tests file) (eq-eqb (length cleared_vram) 16384 (length-replicate {A = ℕ} 16384 0))

  -- the line of a refusal, or those of the colour and its origin
  abbrev pub shown : Outcome → List ℕ
  shown r = if_accepted r (shown_text (held_state file).registers (vram_bytes file) l x) (refused_text (number_of r))

  -- where no test of the file fails, those of the numbers are left, in the point's call too
  module _ (ok : read_refusal cleared_vram file ≡ Ok tt) where
    abbrev readable : Readable cleared_vram file
    readable = accepted-readable cleared_vram file ok

    numbers-left : given ≡ refusal_of (point_own_tests l x)
    numbers-left =
        let own = point_own_tests l x in
        passed (size_test file) (trailer_test file ∷ sum_test file ∷ contents_test file ∷ own) (eq-eqb _ _ readable.whole)
        ∙ passed (trailer_test file) (sum_test file ∷ contents_test file ∷ own) readable.points
        ∙ passed (sum_test file) (contents_test file ∷ own) readable.total
        ∙ passed (contents_test file) own readable.holds

    of-point : point_refusal (held_state file) (vram_bytes file) l x ≡ refusal_of (point_own_tests l x)
    of-point =
        let own = point_own_tests l x in
        passed (vram_test (vram_bytes file)) (state_test (held_state file) ∷ own) (eq-eqb _ _ (length-vram file readable.whole))
        ∙ passed (state_test (held_state file)) own readable.holds

    in_held : pixel_output argc first second file ≡ point_text l x (held_state file) (vram_bytes file)
    in_held =
        sym (point-written argc first second file right ok)
        ∙ ap₂ (λ (c : Chip) (v : List ℕ). point_text l x c v) (the-new ok (held_state file) power_up_state) (the-new ok (vram_bytes file) cleared_vram)

    by-point : pixel_output argc first second file ≡ shown given
    unfolding point_text
    by-point = in_held ∙ ap shown (of-point ∙ sym numbers-left)

  pub in_order : pixel_output argc first second file ≡ shown given
  in_order = by (is_accepted (refusal_of (file_tests file))) refl
    where
      by : (b : Bool) → is_accepted (refusal_of (file_tests file)) ≡ b → pixel_output argc first second file ≡ shown given
      by false n =
          let one = file-first (eqb (length file) 16406) (points_back file) (sum_right file) (well_formed (held_state file)) (leb l 191) (leb x 255) n in
          sym (file-refused argc first second file right of-reading n) ∙ refused-line (shown_text (held_state file).registers (vram_bytes file) l x) one n
      by true ok = by-point (of-reading ∙ is-accepted (refusal_of (file_tests file)) ok)
