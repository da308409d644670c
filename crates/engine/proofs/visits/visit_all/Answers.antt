use Rattle.std.proofs.Common.{refl, sym, ◌∙◌, ◌+◌, ◌<◌, arith, bit_or}
use Rattle.models.proofs.Walking.{walk_less}
use Rattle.models.proofs.EngineCode.{walk_on_lem, walk_end}
use Rattle.engine.proofs.visits.visit_all.Goals as goal

pub loop-len-smaller : goal.loop-len-smaller
loop-len-smaller c = omega (arith, c.visit-v.ensures.next_value, walk_less c.args.next.now c.args.n c.loop-len.len c.loop-len-test.true)

pub loop-len-preserved : goal.loop-len-preserved
loop-len-preserved c =
    let p = c.args in
    let l = c.loop-len in
    let v = c.visit-v in
    let d : v.result.next < l.len = loop-len-smaller c in
    let t = walk_on_lem p.next.now p.n l.invariant.0 l.len v.result.next v.result.word l.union (bit_or l.union v.result.word)
    l.count (l.count + 1) l.len l.places v.new.places l.visits c.store.new.s l.invariant.1
    c.loop-len-test.true v.ensures.next_value v.ensures.word v.ensures.stored refl c.store.ensures refl refl in
    (t.0, t.1, omega (arith, l.invariant.2), t.2 ∙ l.invariant.3)

pub returns : goal.returns
returns c =
    let l = c.loop-len in
    sym (walk_end c.args.next.now c.args.n l.invariant.0 l.len l.union l.count l.places l.visits c.loop-len-test.false)
    ∙ l.invariant.3
