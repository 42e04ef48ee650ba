-- What is written for a point, for a file that is refused, and for numbers that the code caps at a limit.
use Prim.Native.Nat.{ℕ, ◌≤◌, ◌<◌, min}
use native.Mathlib.Omega.{arith}
use mathlib.Core.Path.{◌≡◌, refl, sym, ap, ap₂, ◌∙◌}
use mathlib.Core.Bool.{Bool, true, false, cond}
use mathlib.Core.List.{List, [], ◌∷◌, ◌++◌}
use lib.Dec.{leb, lit<}
use lib.ListN.{length, length-append}
use borrow.Author.Tests.{leb-true, leb-false, le-leb, lt-leb}
use Rattle.std.specs.Prelude.{Ok}
use Rattle.chip.specs.Refusals.{Outcome, number_of, is_accepted, if_accepted, vram_test, state_test, refusal_of}
use Rattle.chip.specs.Ports.{cleared_vram}
use Rattle.chip.specs.State.{masked, power_up_state}
use Rattle.chip.specs.declared.state.Chip.{Chip}
use Rattle.chip.specs.declared.refusal.Refusal.TheVariants.{LineNumber, ColumnNumber}
use Rattle.chip.proofs.Laws.Refusals.{the-new, the-value, value-given, all_pass}
use Rattle.chip.proofs.Laws.State.{masked-in}
use Rattle.point.specs.Calls.{point_colour, point_origin, point_tests, point_refusal, point_at}
use Rattle.point.specs.declared.numbers.Point.{Point}
use Rattle.snapshot.specs.Calls.{read_refusal, read_snapshot, read_vram}
use Rattle.text.specs.Lines.{refused_text}
use Rattle.text.specs.Numbers.{decimal}
use Rattle.text.specs.Output.{output_of}
use Rattle.text.proofs.Laws.Numbers.{length-decimal}
use Rattle.text.proofs.Laws.Reading.{refusal-given}
use Rattle.pixel.specs.Arguments.{number_in, rightly_called}
use Rattle.pixel.specs.Names.{name_of}
use Rattle.pixel.specs.Origins.{origin_text}
use Rattle.pixel.specs.Output.{usage_text, colour_text, shown_text, point_text, pixel_output}
use Rattle.pixel.proofs.Laws.Names.{name-short}

-- three digits, a blank, a name of 12 letters and a newline
pub colour-short : (colour : ℕ) → length (colour_text colour) ≤ 17
unfolding colour_text
colour-short colour =
    omega (arith, length-append (decimal colour) (32 ∷ (name_of colour ++ (10 ∷ []))), length-append (name_of colour) (10 ∷ []), (length-decimal colour).0, name-short colour)

-- how long a colour's parts are
pub ruleset colours = (length-append, length-decimal, name-short)

-- the line of a refusal, where there is one
pub refused-line : {r s : Outcome} (text : List ℕ) → s ≡ r → is_accepted r ≡ false → refused_text (number_of r) ≡ if_accepted s text (refused_text (number_of s))
refused-line {r} text e n =
    sym (ap (λ (q : Outcome). if_accepted q text (refused_text (number_of q))) e ∙ ap (λ (b : Bool). cond b text (refused_text (number_of r))) n)

module _ (c : Chip) (vram : List ℕ) (l x : ℕ) where
  pub point-refused : {r : Outcome} → point_refusal c vram l x ≡ r → is_accepted r ≡ false → refused_text (number_of r) ≡ point_text l x c vram
  unfolding point_text
  point-refused e n = refused-line (shown_text c.registers vram l x) e n

  module _ {p : Point} (e : point_at c vram l x ≡ Ok p) where
    abbrev found : Point
    found = record { colour = point_colour c.registers vram l x; origin = point_origin c.registers vram l x }

    accepted : point_refusal c vram l x ≡ Ok tt
    accepted = value-given (point_refusal c vram l x) found e

    point-is : p ≡ found
    point-is = let k : Ok p ≡ Ok found = sym e ∙ the-value accepted found in cc

    pub point-shown : colour_text p.colour ++ origin_text c.registers vram l x p.origin ≡ point_text l x c vram
    unfolding shown_text point_text
    point-shown =
        ap (λ (q : Point). colour_text q.colour ++ origin_text c.registers vram l x q.origin) point-is
        ∙ sym (the-new accepted (shown_text c.registers vram l x) (refused_text (number_of (point_refusal c vram l x))))

    -- what an accepted point's registers and line are
    pub point-given : (masked c.registers ≡ true) × (l < 192)
    point-given =
        let t = all_pass (point_tests c vram l x) (ap is_accepted accepted) in
        (masked-in c t.1.0, omega (arith, leb-true l 191 t.1.1.0))

-- a number is as much above a bound when it is capped at a limit further up
above : (bound limit n : ℕ) → bound < limit → leb (min n limit) bound ≡ leb n bound
above bound limit n h = by (leb n bound) refl
  where
    by : (b : Bool) → leb n bound ≡ b → leb (min n limit) bound ≡ b
    by true e = let low = leb-true n bound e in le-leb (min n limit) bound (omega arith)
    by false e = let high = leb-false n bound e in lt-leb (min n limit) bound (omega arith)

abbrev pub limit : ℕ
limit = 4294967295

-- so the text is the same for numbers that the code caps
module _ (c : Chip) (vram : List ℕ) (l x : ℕ) where
  same-refusal : point_refusal c vram (min l limit) (min x limit) ≡ point_refusal c vram l x
  same-refusal =
      ap₂ (λ (p q : Bool). refusal_of (vram_test vram ∷ state_test c ∷ record { refusal = LineNumber; passes = p } ∷ record { refusal = ColumnNumber; passes = q } ∷ []))
      (above 191 limit l (lit< tt))
      (above 255 limit x (lit< tt))

  pub capped-point : point_text (min l limit) (min x limit) c vram ≡ point_text l x c vram
  capped-point = by (is_accepted (point_refusal c vram l x)) refl
    where
      by : (b : Bool) → is_accepted (point_refusal c vram l x) ≡ b → point_text (min l limit) (min x limit) c vram ≡ point_text l x c vram
      by true e =
          let p = all_pass (point_tests c vram l x) e in
          let low = leb-true l 191 p.1.1.0 in
          let near = leb-true x 255 p.1.1.1.0 in
          let line : min l limit ≡ l = omega arith in
          let column : min x limit ≡ x = omega arith in
          ap₂ (λ (i j : ℕ). point_text i j c vram) line column
      by false e = sym (point-refused c vram (min l limit) (min x limit) same-refusal e) ∙ point-refused c vram l x refl e

-- the whole output
module _ (argc : ℕ) (first second file : List ℕ) where
  pub usage-written : rightly_called argc first second ≡ false → usage_text ≡ pixel_output argc first second file
  unfolding pixel_output
  usage-written e = sym (ap (λ (b : Bool). cond b (output_of (point_text (number_in first) (number_in second)) file) usage_text) e)

  module _ (right : rightly_called argc first second ≡ true) where
    shows : output_of (point_text (number_in first) (number_in second)) file ≡ pixel_output argc first second file
    unfolding pixel_output
    shows = sym (ap (λ (b : Bool). cond b (output_of (point_text (number_in first) (number_in second)) file) usage_text) right)

    -- a file that is refused
    pub file-refused : {r : Outcome} → read_refusal cleared_vram file ≡ r → is_accepted r ≡ false → refused_text (number_of r) ≡ pixel_output argc first second file
    unfolding output_of
    file-refused e n = refused-line (point_text (number_in first) (number_in second) (read_snapshot power_up_state cleared_vram file).chip (read_vram cleared_vram file)) e n ∙ shows

    -- and one that is not: by its numbers, and by those that the code has
    module _ (e : read_refusal cleared_vram file ≡ Ok tt) where
      abbrev chip : Chip
      chip = (read_snapshot power_up_state cleared_vram file).chip

      abbrev vram : List ℕ
      vram = read_vram cleared_vram file

      pub point-written : point_text (number_in first) (number_in second) chip vram ≡ pixel_output argc first second file
      unfolding output_of
      point-written = sym (the-new e (point_text (number_in first) (number_in second) chip vram) (refused_text (number_of (read_refusal cleared_vram file)))) ∙ shows

      pub capped-point-written : point_text (min (number_in first) limit) (min (number_in second) limit) chip vram ≡ pixel_output argc first second file
      capped-point-written = capped-point chip vram (number_in first) (number_in second) ∙ point-written

-- what the functions that write it are proved by
pub ruleset points = (length-append, colour-short, point-refused, refusal-given, point-shown, point-given)

pub ruleset whole = (usage-written, value-given, capped-point-written)
