use Rattle.std.proofs.Common.{refl, sym, ◌∙◌, ◌+◌, ◌-◌, ◌*◌, arith}
use Rattle.models.proofs.IteratorCode.{scan_found, scan_on, scan_end}
use Rattle.iterator.proofs.scan.scan.Goals as goal

pub returns-then-extends-clause-places_after : goal.returns-then-extends-clause-places_after
returns-then-extends-clause-places_after c =
    let p = c.args in
    let l = c.loop-half_picks in
    sym (scan_found p.letters.now p.n p.pick p.from.0 l.half_picks _ c.radius_ahead-r.result l.centres l.places
    c.radius_ahead-r.ensures
    (2 * p.n + 2 - (l.half_picks + 1)) _ _ (omega arith) (sym c.extends.ensures ∙ c.if-extends.true) refl refl)
    ∙ l.invariant

pub loop-half_picks-preserved : goal.loop-half_picks-preserved
loop-half_picks-preserved c =
    let p = c.args in
    let l = c.loop-half_picks in
    scan_on p.letters.now p.n p.pick p.from.0 l.half_picks _ c.radius_ahead-r.result l.centres l.places
    c.radius_ahead-r.ensures
    _ (l.half_picks + 1) _ _ _ _ _ _ _ (omega arith) (sym c.extends.ensures ∙ c.if-extends.false) refl refl
    c.start-i.ensures refl refl refl refl refl
    ∙ l.invariant

pub returns-clause-places_after : goal.returns-clause-places_after
returns-clause-places_after c =
    let p = c.args in
    let l = c.loop-half_picks in
    sym (scan_end p.letters.now p.n p.pick p.from.0 l.half_picks _ (2 * p.n + 2) l.centres l.places _ (omega arith) (omega arith) refl)
    ∙ l.invariant
