-- `put_word` meets its contract.
use native.Mathlib.Nat.{add-sub_cancel_left}
use native.Mathlib.Omega.{arith}
use mathlib.Core.Path.{◌≡◌, ap, ◌∙◌}
use Rattle.std.specs.Int.{w64, to_le_bytes}
use Rattle.words.proofs.Laws.Stored.{stored-painted}
use Rattle.words.proofs.word.put_word.Goals as goal

pub returns : goal.returns
returns c =
    let a = c.args in
    let copied : c.copy_from_slice.new.self ≡ to_le_bytes w64 a.word = c.copy_from_slice.ensures.after ∙ c.to_le_bytes-bytes.ensures ∙ ap (to_le_bytes w64) (omega arith) in
    rw (copied, add-sub_cancel_left) (stored-painted a.line.now a.at a.word c.requires)
