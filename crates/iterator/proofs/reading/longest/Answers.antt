use Rattle.std.proofs.Common.{arith}
use Rattle.models.proofs.Answers.{longest_promised}
use Rattle.iterator.proofs.reading.longest.Goals as goal

pub returns : goal.returns
returns c = longest_promised _ _ _ (omega arith)
