use Rattle.std.proofs.Common.{refl}
use Rattle.promises.specs.Runs.{fed, call_of, reply_of, Meets, leaves}
use Rattle.drive.specs.Script.{source_of}
use Rattle.drive.proofs.Calling.{makes}
use Rattle.drive.proofs.state.State.feed.Goals as goal

pub returns-clause-makes : goal.returns-clause-makes
unfolding call_of reply_of Meets leaves source_of
returns-clause-makes c =
    makes (fed c.args.pick c.args.visits.now _ c.feed-step.new.visits) (c.feed-step.ensures c.args.self.now.marks.now) c.feed_told.ensures refl refl
