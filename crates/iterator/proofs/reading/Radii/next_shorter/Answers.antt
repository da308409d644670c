use Rattle.std.proofs.Common.{sym, ◌∙◌}
use Rattle.models.proofs.Answers.{next_promised}
use Rattle.models.proofs.IteratorCode.{next_there, next_missing}
use Rattle.iterator.proofs.reading.Radii.next_shorter.Goals as goal

pub returns-then-is_ending : goal.returns-then-is_ending
returns-then-is_ending c =
    let p = c.args in
    next_promised p.self.now.radius.now p.next.now p.self.now.held.n p.self.now.held.longest.0 p.c.0 _
    (next_there p.self.now.radius.now p.next.now p.self.now.held.n p.self.now.held.longest.0 c.longest.result.0 p.c.0 c.period_at-period.result
    c.longest.ensures.computes (sym c.is_ending.ensures ∙ c.if-is_ending.true) c.period_at-period.ensures)

pub returns : goal.returns
returns c =
    let p = c.args in
    next_promised p.self.now.radius.now p.next.now p.self.now.held.n p.self.now.held.longest.0 p.c.0 _
    (next_missing p.self.now.radius.now p.next.now p.self.now.held.n p.self.now.held.longest.0 c.longest.result.0 p.c.0 c.longest.ensures.computes
    (sym c.is_ending.ensures ∙ c.if-is_ending.false))
