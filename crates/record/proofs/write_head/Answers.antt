use Rattle.record.specs.RecordCode.{head_as}
use Rattle.record.proofs.write_head.Goals as goal

pub returns-clause-writes : goal.returns-clause-writes
returns-clause-writes c =
    head_as c.args.i.0 c.args.count c.write_decimal-comma.ensures.writes c.write_byte-number.ensures c.write_decimal.ensures.writes
