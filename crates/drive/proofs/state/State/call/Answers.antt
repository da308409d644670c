-- Each call leaves what its promise says, and is lent no more than it fills.
use Rattle.std.proofs.Common.{refl}
use Rattle.std.proofs.lemmas.List.{nil_from_length}
use Rattle.promises.specs.Book.{split, longest, mask, radius, next, fold, lift}
use Rattle.promises.specs.Runs.{loaded, marked, asked, call_of, reply_of, Meets, leaves}
use Rattle.drive.specs.Script.{call_on, source_of, source_at}
use Rattle.drive.proofs.Calling.{makes, lent_none}
use Rattle.drive.proofs.state.State.call.Goals as goal

pub returns-in-Start-clause-makes : goal.returns-in-Start-clause-makes
unfolding call_on source_of source_at call_of reply_of Meets leaves
returns-in-Start-clause-makes c =
    let e = c.in-Start.is in
    rw e (lent_none (c.start.ensures.makes)
    (rw e at c.requires.entries) (rw e at c.requires.bytes))

pub returns-in-Feed-clause-makes : goal.returns-in-Feed-clause-makes
unfolding call_on source_of source_at call_of reply_of Meets leaves
returns-in-Feed-clause-makes c =
    let e = c.in-Feed.is in
    rw (e, nil_from_length c.args.bytes.now (rw e at c.requires.bytes)) c.feed.ensures.makes

pub returns-in-Load-clause-makes : goal.returns-in-Load-clause-makes
unfolding call_on source_of source_at call_of reply_of Meets leaves
returns-in-Load-clause-makes c =
    let e = c.in-Load.is in
    rw e (lent_none (makes (loaded c.args.input.now _) (c.load.ensures _ refl refl) c.told.ensures refl refl)
    (rw e at c.requires.entries) (rw e at c.requires.bytes))

pub returns-in-Mark-clause-makes : goal.returns-in-Mark-clause-makes
unfolding call_on source_of source_at call_of reply_of Meets leaves
returns-in-Mark-clause-makes c =
    let e = c.in-Mark.is in
    rw e (lent_none (makes (marked c.args.q.b _) (c.mark.ensures _ refl refl) c.told-in-Mark.ensures refl refl)
    (rw e at c.requires.entries) (rw e at c.requires.bytes))

pub returns-in-Back-clause-makes : goal.returns-in-Back-clause-makes
unfolding call_on source_of source_at call_of reply_of Meets leaves
returns-in-Back-clause-makes c =
    let e = c.in-Back.is in
    rw e (lent_none (c.back.ensures.makes)
    (rw e at c.requires.entries) (rw e at c.requires.bytes))

pub returns-in-Split-clause-makes : goal.returns-in-Split-clause-makes
unfolding call_on source_of source_at call_of reply_of Meets leaves
returns-in-Split-clause-makes c =
    let e = c.in-Split.is in
    rw e (makes (asked (split c.args.q.x c.args.q.b c.args.list.now) _) (c.split.ensures _ refl (refl, refl)) c.told-in-Split.ensures refl
    (nil_from_length c.args.bytes.now (rw e at c.requires.bytes)))

pub returns-in-LongestEnding-clause-makes : goal.returns-in-LongestEnding-clause-makes
unfolding call_on source_of source_at call_of reply_of Meets leaves
returns-in-LongestEnding-clause-makes c =
    let e = c.in-LongestEnding.is in
    rw e (lent_none (makes (asked longest _) (c.longest.ensures _ refl tt) c.told-in-LongestEnding.ensures refl refl)
    (rw e at c.requires.entries) (rw e at c.requires.bytes))

pub returns-in-Mask-clause-makes : goal.returns-in-Mask-clause-makes
unfolding call_on source_of source_at call_of reply_of Meets leaves
returns-in-Mask-clause-makes c =
    let e = c.in-Mask.is in
    rw e (lent_none (makes (asked (mask c.args.q.x) _) (c.mask.ensures _ refl refl) c.told-in-Mask.ensures refl refl)
    (rw e at c.requires.entries) (rw e at c.requires.bytes))

pub returns-in-RadiusAt-clause-makes : goal.returns-in-RadiusAt-clause-makes
unfolding call_on source_of source_at call_of reply_of Meets leaves
returns-in-RadiusAt-clause-makes c =
    let e = c.in-RadiusAt.is in
    rw e (lent_none (makes (asked (radius c.args.q.x) _) (c.radius.ensures _ refl refl) c.told-in-RadiusAt.ensures refl refl)
    (rw e at c.requires.entries) (rw e at c.requires.bytes))

pub returns-in-NextShorter-clause-makes : goal.returns-in-NextShorter-clause-makes
unfolding call_on source_of source_at call_of reply_of Meets leaves
returns-in-NextShorter-clause-makes c =
    let e = c.in-NextShorter.is in
    rw e (lent_none (makes (asked (next c.args.q.x) _) (c.next.ensures _ refl (refl, refl)) c.told-in-NextShorter.ensures refl refl)
    (rw e at c.requires.entries) (rw e at c.requires.bytes))

pub returns-in-Record-clause-makes : goal.returns-in-Record-clause-makes
unfolding call_on source_of source_at call_of reply_of Meets leaves
returns-in-Record-clause-makes c =
    let e = c.in-Record.is in
    rw e (makes (asked (fold c.args.q.x c.args.q.b c.args.bytes.now) _) (c.fold.ensures _ refl (refl, refl, refl)) c.told-in-Record.ensures
    (nil_from_length c.args.list.now (rw e at c.requires.entries)) refl)

pub returns-in-Lift-clause-makes : goal.returns-in-Lift-clause-makes
unfolding call_on source_of source_at call_of reply_of Meets leaves
returns-in-Lift-clause-makes c =
    let e = c.in-Lift.is in
    rw e (lent_none (makes (asked (lift c.args.q.b) _) (c.lift.ensures _ refl refl) c.told-in-Lift.ensures refl refl)
    (rw e at c.requires.entries) (rw e at c.requires.bytes))
