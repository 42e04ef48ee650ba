-- What the draw of a line leaves, and what the draws of lines 0 to n - 1 leave: from any well-formed state and full VRAM,
-- into any slices of 256 bytes, the draws change status alone, by the notes of the lines.
use Prim.Native.Nat.{ℕ, zero, suc, ◌≤◌, ◌<◌}
use native.Mathlib.Omega.{arith}
use mathlib.Core.Path.{◌≡◌, refl, sym, ap, ◌∙◌}
use mathlib.Core.Bool.{true}
use mathlib.Core.List.{List, [], ◌∷◌, ◌++◌}
use lib.ListN.{length}
use borrow.Author.Tests.{eq-eqb, le-leb}
use Rattle.chip.specs.Lists.{tabulate}
use Rattle.chip.specs.State.{well_formed, with_status}
use Rattle.chip.specs.declared.state.Chip.{Chip}
use Rattle.std.specs.Prelude.{Ok}
use Rattle.chip.proofs.Laws.Refusals.{the-new, all-accepted}
use Rattle.scanline.specs.Notes.{status_after, status_through}
use Rattle.scanline.specs.Calls.{note_at, colours, draw_line_tests, draw_line_refusal, draw_line, draw_line_line}
use Rattle.scanline.specs.LineDraws.{Slices, state_after, drawn_line}

pub one-note-more : (s : ℕ) (l : List ℕ) (n : ℕ) → status_through s (l ++ (n ∷ [])) ≡ status_after (status_through s l) n
unfolding status_through
one-note-more s [] n = refl
one-note-more s (m ∷ l) n = one-note-more (status_after s m) l n

-- a table of one entry more
one_more : (n : ℕ) (f : ℕ → ℕ) → tabulate (suc n) f ≡ tabulate n f ++ (f n ∷ [])
unfolding tabulate
one_more zero f = refl
one_more (suc n) f = ap (λ (l : List ℕ). f 0 ∷ l) (one_more n (λ i. f (suc i)))

-- status through the notes f 0 to f n
pub one-line-more : (s : ℕ) (f : ℕ → ℕ) (n : ℕ) → status_through s (tabulate (suc n) f) ≡ status_after (status_through s (tabulate n f)) (f n)
one-line-more s f n = ap (status_through s) (one_more n f) ∙ one-note-more s (tabulate n f) (f n)

-- the state with its status updated by the notes of lines 0 to n - 1
abbrev pub noted : ℕ → Chip → List ℕ → Chip
noted n c vram = with_status (status_through c.status (tabulate n (note_at c.registers vram))) c

-- well-formedness does not depend on status
still_formed : (s : ℕ) (c : Chip) → well_formed c ≡ true → well_formed (with_status s c) ≡ true
unfolding well_formed
still_formed s c ok = ok

module _ (vram : List ℕ) (full : length vram ≡ 16384) where
  -- The draw of one line.
  module _ (c : Chip) (ok : well_formed c ≡ true) (line codes : List ℕ) (wide : (length line ≡ 256) × (length codes ≡ 256)) (l : ℕ) (h : l < 192) where
    pub line-accepted : draw_line_refusal c vram line codes l ≡ Ok tt
    line-accepted =
        all-accepted (draw_line_tests c vram line codes l) (eq-eqb _ _ full, (ok, (eq-eqb _ _ wide.0, (eq-eqb _ _ wide.1, (le-leb l 191 (omega arith), tt)))))

    pub line-drawn : draw_line_line c vram line codes l ≡ colours c.registers vram l
    line-drawn = the-new line-accepted (colours c.registers vram l) line

    state-drawn : (draw_line c vram line codes l).chip ≡ with_status (status_after c.status (note_at c.registers vram l)) c
    state-drawn = the-new line-accepted (with_status (status_after c.status (note_at c.registers vram l)) c) c

  -- The draws of lines 0 to n - 1.
  module _ (s : Slices) (wide : (l : ℕ) → (length (s.line l) ≡ 256) × (length (s.codes l) ≡ 256)) (c : Chip) (ok : well_formed c ≡ true) where
    pub state-after : (n : ℕ) → n ≤ 192 → state_after n c vram s ≡ noted n c vram
    unfolding state_after status_through tabulate
    state-after zero h = refl
    state-after (suc n) h =
        ap (λ (d : Chip). (draw_line d vram (s.line n) (s.codes n) n).chip) (state-after n (omega arith))
        ∙ state-drawn (noted n c vram) (still_formed _ c ok) (s.line n) (s.codes n) (wide n) n (omega arith)
        ∙ ap (λ (k : ℕ). with_status k c) (sym (one-line-more c.status (note_at c.registers vram) n))

    pub each-accepted : (l : ℕ) → l < 192 → draw_line_refusal (state_after l c vram s) vram (s.line l) (s.codes l) l ≡ Ok tt
    each-accepted l h =
        ap (λ (d : Chip). draw_line_refusal d vram (s.line l) (s.codes l) l) (state-after l (omega arith)) ∙ line-accepted (noted l c vram) (still_formed _ c ok) (s.line l) (s.codes l) (wide l) l h

    pub each-drawn : (l : ℕ) → l < 192 → drawn_line c vram s l ≡ colours c.registers vram l
    each-drawn l h =
        ap (λ (d : Chip). draw_line_line d vram (s.line l) (s.codes l) l) (state-after l (omega arith)) ∙ line-drawn (noted l c vram) (still_formed _ c ok) (s.line l) (s.codes l) (wide l) l h
