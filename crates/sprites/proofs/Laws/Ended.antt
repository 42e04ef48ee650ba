-- A scan's end in a note, the fifth sprite's number or 32 for none, is at most 32: so it fits the note's low six bits.
use Rattle.std.proofs.Common.{ℕ, ◌≤◌, List}
use Rattle.fetches.specs.Fetch.{value}
use Rattle.sprites.specs.Scan.{scan_of, fifth_of}
use Rattle.sprites.proofs.Laws.Found.{scan-finds}

pub ended-small : (r : List ℕ) (l : ℕ) (m : List ℕ) → fifth_of (value (scan_of r l) m).ended ≤ 32
ended-small r l m = scan-finds r l m (λ f. fifth_of f.ended ≤ 32) (λ e small. small) (λ n y low f small. small)
