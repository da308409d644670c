use Rattle.draft.proofs.Putting.{field_as}
use Rattle.draft.proofs.line.write_field.Goals as goal

pub returns-clause-writes : goal.returns-clause-writes
returns-clause-writes c = field_as c.args.n c.args.close c.write_decimal-end.ensures.writes c.write_byte.ensures
