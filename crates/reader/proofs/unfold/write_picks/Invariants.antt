use Rattle.std.proofs.Common.{◌≡◌}
use Rattle.std.specs.Prelude.{Some}
use Rattle.reader.specs.Numbers.{numbers_of}
use Rattle.reader.specs.ScanCode.{after}
use Rattle.reader.specs.Filling.{Fills}
use Rattle.reader.proofs.unfold.write_picks.Given as goal

abbrev pub invariant-loop-b : goal.invariant-loop-b
invariant-loop-b l = (Some l.s ≡ numbers_of (after l.bytes l.b-index)) × Fills l.fn.picks (after l.bytes l.b-index) l.picks
