use Rattle.std.proofs.Common.{◌∙◌, arith}
use Rattle.models.specs.Iterator.{longest_of}
use Rattle.models.proofs.SplitCode.{first_on, first_here, first_end}
use Rattle.splitting.proofs.Search.first_start.Goals as goal

pub returns-then-starts_at : goal.returns-then-starts_at
returns-then-starts_at c =
    let p = c.args in
    let s = p.self.now in
    first_here s.rows.now s.radii.radius.now s.radii.held.n (longest_of s.radii.held.n s.radii.held.longest.0) p.k p.i.0 c.loop-j.j c.starts_at.result
    c.starts_at.ensures (omega arith) c.if-starts_at.true
    ∙ c.loop-j.invariant

pub loop-j-preserved : goal.loop-j-preserved
loop-j-preserved c =
    let p = c.args in
    let s = p.self.now in
    first_on s.rows.now s.radii.radius.now s.radii.held.n (longest_of s.radii.held.n s.radii.held.longest.0) p.k p.i.0 c.loop-j.j c.starts_at.result
    c.starts_at.ensures (omega arith) c.if-starts_at.false
    ∙ c.loop-j.invariant

pub returns : goal.returns
returns c =
    let p = c.args in
    let s = p.self.now in
    first_end s.rows.now s.radii.radius.now s.radii.held.n (longest_of s.radii.held.n s.radii.held.longest.0) p.k p.i.0 c.loop-j.j (omega arith)
    ∙ c.loop-j.invariant
