use Rattle.std.proofs.Common.{refl}
use Rattle.board.proofs.next.Goals as goal

pub returns : goal.returns
returns c = c.next.ensures c.args.draft refl (refl, refl)
