use Rattle.models.specs.Engine.{seen_as}
use Rattle.models.proofs.EngineCode.{stepped_as_lem}
use Rattle.engine.proofs.step.step.Goals as goal

pub returns : goal.returns
returns c =
    let p = c.args in
    let v = c.visit_all-seen in
    stepped_as_lem p.new.k p.new.n p.new.longest.0 c.longest_length-length.result c.raised-row.result p.places.now _ _
    p.next.now p.visits.now (seen_as v.new.places v.result.union v.new.visits v.result.count)
    c.longest_length-length.ensures v.ensures c.raised-row.ensures c.put.ensures c.put-2.ensures
