use Rattle.std.proofs.Common.{arith}
use Rattle.draft.specs.Lines.{header_line}
use Rattle.draft.proofs.Putting.{front}
use Rattle.draft.proofs.line.header_line.Goals as goal

pub returns-clause-line_after : goal.returns-clause-line_after
unfolding header_line
returns-clause-line_after c = (front header_line c.write_bytes.ensures (omega arith)).1
