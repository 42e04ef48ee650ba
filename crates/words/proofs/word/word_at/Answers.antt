-- `word_at` meets its contract.
use native.Mathlib.Nat.{add-sub_cancel_left}
use Rattle.words.proofs.Laws.Stored.{loaded}
use Rattle.words.proofs.word.word_at.Goals as goal

pub returns : goal.returns
returns c =
    let a = c.args in
    let chunk = rw c.unwrap-bytes.ensures at c.try_into.ensures.1 in
    let read = rw (chunk.same, add-sub_cancel_left) at c.from_le_bytes.ensures in
    loaded a.line.now a.at c.from_le_bytes.result c.requires (λ i. (c.type_inv.line i).fits) read
