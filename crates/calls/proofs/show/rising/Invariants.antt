use Rattle.std.proofs.Common.{◌≡◌, drop}
use Rattle.std.proofs.Math.Bool.{decide}
use Rattle.words.specs.Computed.{rising?}
use Rattle.calls.proofs.show.rising.Given as goal

abbrev pub invariant-loop-end : goal.invariant-loop-end
invariant-loop-end l = decide (rising? l.letters l.last (drop l.end-index l.ends)) ≡ decide (rising? l.letters 0 l.ends)
