use Rattle.std.proofs.Common.{refl, ◌+◌}
use Rattle.models.specs.Engine.{stepped_as}
use Rattle.models.proofs.Core.{append_as, append_promised}
use Rattle.engine.proofs.append.append.Goals as goal

pub returns : goal.returns
returns c =
    let p = c.args in
    let k = p.held in
    let i = c.append-longest in
    let s = c.step-s in
    append_promised k.k k.n p.pick _ p.visits.now _ c.requires.0
    (append_as k.k k.n (k.n + 1) p.pick k.longest.0 i.result.0 p.letters.now i.new.letters
    p.centres.now i.new.centres p.places.now i.new.places p.visits.now
    (stepped_as s.new.places s.new.visits s.result.row s.result.count)
    refl i.ensures.appends_letter.computes i.ensures.rest s.ensures)
