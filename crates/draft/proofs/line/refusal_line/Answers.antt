use Rattle.std.proofs.Common.{arith}
use Rattle.draft.specs.Lines.{refusal_line}
use Rattle.draft.proofs.Putting.{refusal_as, front}
use Rattle.draft.proofs.line.refusal_line.Goals as goal

pub returns-clause-line_after : goal.returns-clause-line_after
returns-clause-line_after c =
    let p = c.args in
    rw c.from.ensures at
    (front (refusal_line c.from.result p.place)
    (refusal_as c.from.result p.place c.write_bytes-first.ensures c.write_field-second.ensures.writes c.write_field.ensures.writes)
    (omega arith)).1
