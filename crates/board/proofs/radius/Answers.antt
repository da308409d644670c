use Rattle.std.proofs.Common.{refl}
use Rattle.board.proofs.radius.Goals as goal

pub returns : goal.returns
returns c = c.radius.ensures c.args.draft refl refl
