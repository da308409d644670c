use Rattle.text.specs.WritingCode.{Left}
use Rattle.text.proofs.decimal.write_decimal.Given as goal

abbrev pub invariant-loop-last : goal.invariant-loop-last
invariant-loop-last l = Left l.fn.output l.output l.at l.last l.n l.left
