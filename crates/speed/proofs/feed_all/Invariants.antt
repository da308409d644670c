use Rattle.std.proofs.Common.{List, ℕ}
use Rattle.promises.specs.State.{draft_in}
use Rattle.speed.specs.Feeds.{Reaches}
use Rattle.speed.proofs.feed_all.Given as goal

abbrev pub invariant-loop-i : goal.invariant-loop-i
invariant-loop-i l =
    (marks : List ℕ)
    → Reaches (draft_in (record { n = 0; k = 8; longest = record { 0 = 1 } }) l.fn.letters l.fn.codes l.lifts marks l.fn.centres l.fn.places)
    l.picks l.fn.visits l.fn.masks l.i (draft_in l.held l.letters l.codes l.lifts marks l.centres l.places) l.visits l.masks
