use Rattle.std.proofs.Common.{◌∙◌}
use Rattle.models.proofs.Answers.{letter_promised}
use Rattle.models.proofs.IteratorCode.{appended_as}
use Rattle.iterator.proofs.append.append.Goals as goal

pub returns-clause-appends_letter : goal.returns-clause-appends_letter
returns-clause-appends_letter c =
    let p = c.args in
    letter_promised p.n p.pick _ _ c.requires
    (appended_as p.n p.pick p.stored.0 c.longest.result.0 c.scan-s.result.0 c.lost_place.result.0 c.from.result
    p.letters.now _ p.centres.now _ c.link.new.centres c.link-2.new.centres _ p.places.now _
    c.longest.ensures.computes c.scan-s.ensures.places_after c.put.ensures c.link.ensures c.link-2.ensures
    c.lost_place.ensures (c.from.ensures ∙ c.entry-head.ensures) c.unlinks.ensures).0
