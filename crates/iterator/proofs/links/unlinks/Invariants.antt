use Rattle.std.proofs.Common.{◌≡◌, ◌≤◌, ℕ}
use Rattle.models.specs.IteratorCode.{unlinks_in}
use Rattle.iterator.proofs.links.unlinks.Given as goal

-- some k bounds the centres of the lend list from x on, and what is left of the walk gives what the whole walk gives
abbrev pub invariant-loop-x : goal.invariant-loop-x
invariant-loop-x l =
    (k : ℕ) × (l.x.0 ≤ k)
    × (unlinks_in l.s.0 k l.x.0 l.centres ≡ unlinks_in l.s.0 l.fn.head.0 l.fn.head.0 l.fn.centres)

abbrev pub decreases-loop-x : goal.decreases-loop-x
decreases-loop-x l = l.x.0
