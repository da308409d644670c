use Rattle.board.proofs.feed.Goals as goal

pub returns : goal.returns
returns c = c.feed-step.ensures c.args.draft.marks
