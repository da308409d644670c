use Rattle.std.proofs.Common.{refl}
use Rattle.board.proofs.mask.Goals as goal

pub returns : goal.returns
returns c = c.mask.ensures c.args.draft refl refl
