use Rattle.words.specs.Definitions.{word}
use Rattle.record.specs.RecordCode.{record_stored}
use Rattle.record.proofs.write_fields.Goals as goal

pub returns : goal.returns
returns c =
    record_stored (word c.args.letters.now) c.args.i.0 c.args.ends.now c.write_head-sections.ensures.writes
    c.write_sections-end.ensures.writes c.write_byte.ensures
