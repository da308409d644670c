use Rattle.std.proofs.Common.{refl}
use Rattle.board.proofs.fold.Goals as goal

pub returns : goal.returns
returns c = c.fold.ensures c.args.draft refl (refl, refl, refl)
