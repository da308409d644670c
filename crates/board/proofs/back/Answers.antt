use Rattle.board.proofs.back.Goals as goal

pub returns : goal.returns
returns c = rw c.renumbered.ensures c.back-answer.ensures
