use Rattle.std.proofs.Common.{◌+◌, ◌-◌, Option, List, ℕ}
use Rattle.words.specs.Definitions.{most_picks}
use Rattle.draft.specs.Filling.{TakenOn}
use Rattle.draft.proofs.picks.take_picks.Given as goal

-- what is taken from here on is taken from the start
abbrev pub invariant-loop-draft : goal.invariant-loop-draft
invariant-loop-draft g l =
    (left written : Option (List ℕ)) → TakenOn l.draft (g.R.Read.remaining l.input) left (g.W.Write.contents l.output) written
    → TakenOn l.initial.draft (g.R.Read.remaining l.initial.input) left (g.W.Write.contents l.initial.output) written

-- the picks that can still be read: 2,049 at first
abbrev pub decreases-loop-draft : goal.decreases-loop-draft
decreases-loop-draft g l = most_picks + 1 - l.draft.numbers.n
