use Rattle.std.proofs.Common.{refl}
use Rattle.board.proofs.split.Goals as goal

pub returns : goal.returns
returns c = c.split.ensures c.args.draft refl (refl, refl)
