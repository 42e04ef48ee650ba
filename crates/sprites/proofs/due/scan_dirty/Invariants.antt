-- `scan_dirty`: what is fetched from sprite n on is dirty as often as what is fetched in all.
use Rattle.std.proofs.Common.{◌≡◌, ◌≤◌}
use Rattle.fetches.specs.Fetch.{fetched, any_dirty}
use Rattle.sprites.specs.Scan.{scan_of}
use Rattle.sprites.proofs.Laws.Due.{rest_dirty}
use Rattle.sprites.proofs.due.scan_dirty.Given as goal

abbrev pub invariant-loop-n : goal.invariant-loop-n
invariant-loop-n l = (l.drawn ≤ 4) × (rest_dirty l.screen.registers l.l l.screen.vram.now l.map l.n l.drawn ≡ any_dirty l.map (fetched (scan_of l.screen.registers l.l) l.screen.vram.now))
