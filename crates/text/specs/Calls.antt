-- What `refusal_line` writes.
use Rattle.std.specs.Prelude.{ℕ, cond, List, [], leb, length}
use Rattle.text.specs.Lines.{refused_text}

-- A refusal has at most 12 bytes. Where they do not fit, nothing is written.
unfoldable pub refused_written : ℕ → List ℕ → List ℕ
refused_written n out = cond (leb 12 (length out)) (refused_text n) []
