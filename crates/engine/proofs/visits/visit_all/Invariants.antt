use Rattle.std.proofs.Common.{◌≡◌, ℕ, ◌+◌, ◌≤◌}
use Rattle.models.specs.EngineCode.{seen_in}
use Rattle.engine.proofs.visits.visit_all.Given as goal

-- some k bounds the lengths that are left, and what is left of the walk gives what the whole walk gives
abbrev pub invariant-loop-len : goal.invariant-loop-len
invariant-loop-len l =
    (k : ℕ) × (l.len ≤ k) × (l.count + l.len ≤ l.longest)
    × (seen_in l.next l.n k l.len l.union l.places l.visits l.count
    ≡ seen_in l.next l.n l.longest l.longest 0 l.fn.places l.fn.visits 0)

abbrev pub decreases-loop-len : goal.decreases-loop-len
decreases-loop-len l = l.len
