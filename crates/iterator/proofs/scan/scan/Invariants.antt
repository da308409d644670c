use Rattle.std.proofs.Common.{◌≡◌, ◌+◌, ◌-◌, ◌*◌}
use Rattle.models.specs.IteratorCode.{scan_in}
use Rattle.iterator.proofs.scan.scan.Given as goal

-- what is left of the scan gives what the whole scan gives
abbrev pub invariant-loop-half_picks : goal.invariant-loop-half_picks
invariant-loop-half_picks l =
    (scan_in l.letters l.n l.pick l.from.0 (2 * l.n + 2 - l.half_picks) l.half_picks l.centres l.places
    ≡ scan_in l.letters l.n l.pick l.from.0 (2 * l.n + 2 - l.from.0) l.from.0 l.fn.centres l.fn.places)
