use Rattle.std.proofs.Common.{sym, ◌∙◌}
use Rattle.models.proofs.IteratorCode.{unlinks_on, unlinks_stop, unlinks_end}
use Rattle.iterator.proofs.links.unlinks.Goals as goal

pub returns-then-x-y : goal.returns-then-x-y
returns-then-x-y c =
    let l = c.loop-x in
    sym (unlinks_stop c.args.s.0 l.invariant.0 l.x.0 c.from.result c.reflection.result.0 l.centres c.unlink.new.centres
    l.invariant.1 c.loop-x-test.true c.reflection.ensures c.unlink.ensures (c.from.ensures ∙ c.entry.ensures) c.if-x-y.true)
    ∙ l.invariant.2

pub loop-x-preserved : goal.loop-x-preserved
loop-x-preserved c =
    let l = c.loop-x in
    let t = unlinks_on c.args.s.0 l.invariant.0 l.x.0 c.from.result c.reflection.result.0 l.centres c.unlink.new.centres
    l.invariant.1 c.loop-x-test.true c.reflection.ensures c.unlink.ensures (c.from.ensures ∙ c.entry.ensures) c.if-x-y.false in
    (t.0, t.1, t.2 ∙ l.invariant.2)

pub returns : goal.returns
returns c =
    let l = c.loop-x in
    sym (unlinks_end c.args.s.0 l.invariant.0 l.x.0 l.centres c.loop-x-test.false) ∙ l.invariant.2
