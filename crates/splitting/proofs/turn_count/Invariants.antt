use Rattle.std.proofs.Common.{◌+◌, ◌≡◌, ◌≤◌, drop}
use Rattle.words.specs.Definitions.{lengths_back, turns_of, turn_count}
use Rattle.splitting.proofs.turn_count.Given as goal

-- the turns counted, and those of the sections that are left
abbrev pub invariant-loop-end : goal.invariant-loop-end
invariant-loop-end l = (l.turns ≤ l.end-index) × (l.turns + turns_of (lengths_back l.a (drop l.end-index l.ends)) ≡ turn_count l.ends)
