use Rattle.std.proofs.Common.{◌≡◌}
use Rattle.promises.proofs.MarkLaws.{kept_to}
use Rattle.calls.proofs.back.drop_longer.Given as goal

-- the entries before this one are done
abbrev pub invariant-loop-entry : goal.invariant-loop-entry
invariant-loop-entry l = l.entry-items ≡ kept_to l.top l.entry-index l.fn.marks
