use Rattle.std.proofs.Common.{arith}
use Rattle.draft.specs.Lines.{pick_line}
use Rattle.draft.proofs.Putting.{pick_as, front}
use Rattle.draft.proofs.line.pick_line.Goals as goal

pub returns-clause-line_after : goal.returns-clause-line_after
returns-clause-line_after c =
    let p = c.args in
    rw c.from.ensures at
    (front (pick_line p.picks c.from.result p.visits p.longest)
    (pick_as p.picks c.from.result p.visits p.longest c.write_field-second.ensures.writes c.write_field-third.ensures.writes
    c.write_field-fourth.ensures.writes c.write_field.ensures.writes)
    (omega arith)).1
