use Rattle.std.proofs.Common.{refl}
use Rattle.board.proofs.longest.Goals as goal

pub returns : goal.returns
returns c = c.longest.ensures c.args.draft refl tt
