use Rattle.std.proofs.Common.{◌≡◌}
use Rattle.std.specs.Prelude.{Some}
use Rattle.reader.specs.Numbers.{numbers_of}
use Rattle.reader.specs.ScanCode.{after}
use Rattle.reader.specs.Tracking.{Searches}
use Rattle.reader.proofs.section.section_at.Given as goal

abbrev pub invariant-loop-i : goal.invariant-loop-i
invariant-loop-i l = (Some l.s ≡ numbers_of (after l.bytes l.i)) × Searches l.at (after l.bytes l.i) l.search
