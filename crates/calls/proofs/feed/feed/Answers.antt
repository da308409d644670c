use Rattle.std.proofs.Common.{refl}
use Rattle.promises.proofs.WritingLaws.{feed_refused, feed_taken_lem}
use Rattle.calls.proofs.feed.feed.Goals as goal

pub returns-in-Err : goal.returns-in-Err
returns-in-Err c marks = feed_refused _ c.args.pick c.args.visits.now c.in-Err.refusal c.in-Err.ensures c.number.result c.number.ensures

pub returns : goal.returns
returns c marks =
    let i = c.lift_in-code in
    let r = c.taken.ensures in
    rw (r.0, r.1, r.2, r.3)
    (feed_taken_lem _ c.args.pick c.args.visits.now c.in_default.ensures _ _ refl refl c.put.ensures
    refl refl refl i.result i.ensures c.append-a.ensures)
