use Rattle.std.proofs.Common.{◌≡◌, take, nat_lt}
use Rattle.std.specs.List.{count_by}
use Rattle.calls.proofs.mark.how_many.Given as goal

-- those among the entries before this one
abbrev pub invariant-loop-entry : goal.invariant-loop-entry
invariant-loop-entry l = l.count ≡ count_by (λ x. nat_lt 0 x) (take l.entry-index l.marks)
