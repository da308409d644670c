use Rattle.splitting.proofs.Search.+split_into.Given as goal

-- the number of sections left
abbrev pub decreases-split_into : goal.decreases-split_into
decreases-split_into l = l.k
