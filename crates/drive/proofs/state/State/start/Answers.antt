use Rattle.std.proofs.Common.{refl, ap, ◌∙◌}
use Rattle.promises.specs.Runs.{started, call_of, reply_of, Meets, leaves}
use Rattle.drive.specs.Script.{source_of}
use Rattle.drive.specs.Drives.{encoded}
use Rattle.drive.proofs.Calling.{makes, done_said, numbers_kept}
use Rattle.drive.proofs.state.State.start.Goals as goal

pub returns-clause-makes : goal.returns-clause-makes
unfolding call_of reply_of Meets leaves source_of
returns-clause-makes c =
    rw (c.unwrap_or-self.ensures, numbers_kept c.args.self.now.numbers c.start-answer.result)
    (makes (started c.args.k _) c.start-answer.ensures (c.told.ensures ∙ ap encoded (done_said c.start-answer.result)) refl refl)
