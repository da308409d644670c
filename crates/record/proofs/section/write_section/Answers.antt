use Rattle.std.proofs.Common.{arith}
use Rattle.words.specs.Definitions.{word}
use Rattle.words.specs.Mirror.{stretch_length}
use Rattle.record.specs.RecordCode.{section_as}
use Rattle.record.proofs.section.write_section.Goals as goal

pub returns-clause-writes : goal.returns-clause-writes
returns-clause-writes c =
    section_as c.args.a c.args.e c.saturating_sub-length.result c.first_half-count.result c.saturating_sub-length.ensures c.first_half-count.ensures
    (word c.args.letters.now) c.write_byte-number.ensures c.write_decimal-comma.ensures.writes c.write_byte-half.ensures
    c.write_part.ensures

pub returns-clause-small : goal.returns-clause-small
returns-clause-small c =
    omega (arith, c.write_part.ensures.reached, stretch_length (word c.args.letters.now) c.args.a c.first_half-count.result)
