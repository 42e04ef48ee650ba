-- What the words of a table show.
use Prim.Native.Nat.{ℕ, ◌≤◌, ◌<◌}
use mathlib.Core.Path.{◌≡◌, refl}
use mathlib.Core.Bool.{Bool, true, false, cond}
use mathlib.Core.List.{List}
use borrow.Author.Tests.{ltb-true, ltb-false}
use lib.Dec.{ltb}
use lib.ListN.{get_or}
use Rattle.chip.specs.declared.mode.Mode.{Mode}
use Rattle.planes.specs.Pixel.{over, behind_planes}
use Rattle.planes.specs.Plane.{pick}
use Rattle.planes.specs.declared.cell.Cell.{Cell}
use Rattle.words.specs.Words.{byte_of}
use Rattle.rows.specs.Rows.{one_byte, byte_cell, ByteWords}

module _ {m : Mode} {r words : List ℕ} (w : ByteWords m r words) (one : one_byte m ≡ true) where
  -- The word of a byte shows its cell.
  pub word-shown : {read : Cell} (b : ℕ) → b < 256 → read ≡ byte_cell m r b → (j : ℕ) → j < 8 → byte_of j (get_or words b 0) ≡ over (pick read j) (behind_planes r)
  word-shown b small e j h = rw e (w.shows one b j small h)

  -- Of two bytes, one on the upper four lines and one on the lower.
  pub word-half : {read : Cell} (k above below : ℕ) → above < 256 → below < 256 → (k < 4 → read ≡ byte_cell m r above) → (4 ≤ k → read ≡ byte_cell m r below) → (j : ℕ) → j < 8 → cond (ltb k 4) (byte_of j (get_or words above 0)) (byte_of j (get_or words below 0)) ≡ over (pick read j) (behind_planes r)
  word-half {read} k above below ha hb upper lower j h = by (ltb k 4) refl
    where
      by : (b : Bool) → ltb k 4 ≡ b → cond b (byte_of j (get_or words above 0)) (byte_of j (get_or words below 0)) ≡ over (pick read j) (behind_planes r)
      by true e = word-shown above ha (upper (ltb-true k 4 e)) j h
      by false e = word-shown below hb (lower (ltb-false k 4 e)) j h
