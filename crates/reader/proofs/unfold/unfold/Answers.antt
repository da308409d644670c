use Rattle.std.proofs.Common.{arith}
use Rattle.reader.specs.UnfoldCode.{unfold_short, unfold_filled}
use Rattle.reader.proofs.unfold.unfold.Goals as goal

pub returns-then-picks-count : goal.returns-then-picks-count
returns-then-picks-count c =
    unfold_short c.args.bytes.now c.args.picks.now c.in_ok-count.count c.in_ok-count.ensures (omega arith)

pub returns : goal.returns
returns c =
    unfold_filled c.args.bytes.now c.args.picks.now c.in_ok-count.count c.in_ok-count.ensures c.write_picks.new.picks (omega arith)
    c.write_picks.ensures
