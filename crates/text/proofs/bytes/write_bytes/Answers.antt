use Rattle.text.specs.WritingCode.{bytes_all}
use Rattle.text.proofs.bytes.write_bytes.Goals as goal

pub returns : goal.returns
returns c = rw (bytes_all c.args.bytes.now) at c.write_part.ensures
