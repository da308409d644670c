use Rattle.std.proofs.Common.{◌-◌, ◌≡◌}
use Rattle.models.specs.Iterator.{longest_of}
use Rattle.models.specs.Splitting.{first_start}
use Rattle.splitting.proofs.Search.first_start.Given as goal

-- no place before j is a start
abbrev pub invariant-loop-j : goal.invariant-loop-j
invariant-loop-j l =
    (first_start l.self.rows.now l.self.radii.radius.now l.self.radii.held.n (longest_of l.self.radii.held.n l.self.radii.held.longest.0) l.k l.i.0 (l.i.0 - l.j) l.j
    ≡ first_start l.self.rows.now l.self.radii.radius.now l.self.radii.held.n (longest_of l.self.radii.held.n l.self.radii.held.longest.0) l.k l.i.0 l.i.0 0)
