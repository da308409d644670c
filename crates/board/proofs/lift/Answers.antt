use Rattle.std.proofs.Common.{refl}
use Rattle.board.proofs.lift.Goals as goal

pub returns : goal.returns
returns c = c.lift.ensures c.args.draft refl refl
