use Rattle.std.proofs.Common.{◌≡◌, drop, take}
use Rattle.models.specs.Core.{arrays_in}
use Rattle.promises.specs.Lifts.{lifted_by}
use Rattle.promises.specs.State.{append_all}
use Rattle.calls.proofs.back.feed_again.Given as goal

-- what is left of the letters gives what all of them give
abbrev pub invariant-loop-letter : goal.invariant-loop-letter
invariant-loop-letter l =
    (l.held.k ≡ l.k) × (l.held.n ≡ l.letter-index)
    × (append_all l.k l.held.n (arrays_in l.codes l.centres l.places l.held.longest.0)
    (lifted_by l.lifts (drop l.held.n (take l.kept l.letters)))
    ≡ append_all l.k 0 (arrays_in l.fn.codes l.fn.centres l.fn.places 1) (lifted_by l.lifts (take l.kept l.letters)))
