use Rattle.std.proofs.Common.{refl, ap, ◌∙◌, ◌+◌, ◌-◌, ◌%◌, bit_or, get_or}
use Rattle.words.specs.Computed.{mended}
use Rattle.models.proofs.EngineCode.{mended_short, mended_long, next_long}
use Rattle.engine.proofs.visits.visit.Goals as goal

pub returns-then-len-p-clause-word : goal.returns-then-len-p-clause-word
returns-then-len-p-clause-word c =
    let p = c.args in
    let w = p.places.now in
    let x = c.period_of-p in
    mended_short w.rows w.gathered p.n p.len x.result (p.n - p.len) _ refl c.if-len-p.true refl
    ∙ ap (λ q. mended bit_or (λ i. get_or w.rows i 0) p.n p.len q (get_or w.gathered (p.n - p.len) 0)) x.ensures.value

pub returns-clause-word : goal.returns-clause-word
returns-clause-word c =
    let p = c.args in
    let w = p.places.now in
    let x = c.period_of-p in
    let d = x.result + p.len % x.result in
    mended_long w.rows w.gathered p.n p.len x.result (p.n - p.len) _ refl d (p.n - d - x.result) _ _
    c.if-len-p.false (next_long p.len x.result x.ensures.small.0 c.if-len-p.false) refl refl refl refl
    ∙ ap (λ q. mended bit_or (λ i. get_or w.rows i 0) p.n p.len q (get_or w.gathered (p.n - p.len) 0)) x.ensures.value
