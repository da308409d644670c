use Rattle.std.proofs.Common.{refl, arith, take_all}
use Rattle.speed.specs.Feeds.{none}
use Rattle.speed.proofs.Feeds.{reaches_more}
use Rattle.speed.proofs.feed_all.Goals as goal

pub loop-i-init : goal.loop-i-init
loop-i-init c marks = record { told = _; feeds = none; count = refl; stored = refl }

pub loop-i-preserved : goal.loop-i-preserved
loop-i-preserved c marks =
    reaches_more c.args.picks.now c.args.masks.now c.loop-i.i c.mask_of.result c.loop-i-test.true (c.loop-i.invariant marks)
    (c.feed-step.ensures marks) c.mask_of.ensures c.store.ensures

pub returns : goal.returns
returns c marks =
    let h = c.loop-i.invariant marks in
    record {
      held = c.loop-i.held;
      told = h.told;
      feeds = rw (← take_all c.loop-i.i c.args.picks.now (omega arith)) h.feeds;
      centre = refl;
      stored = h.stored;
    }
