use Rattle.std.proofs.Common.{◌≡◌, sym, ap, ◌∙◌, suc, ◌+◌, arith, slice_set}
use Rattle.models.specs.Stores.{at}
use Rattle.promises.specs.Marks.{keep_to}
use Rattle.promises.proofs.MarkLaws.{kept_to, kept_next, kept_more}
use Rattle.calls.proofs.back.drop_longer.Goals as goal

pub loop-entry-preserved : goal.loop-entry-preserved
loop-entry-preserved c =
    let g = c.args in
    let l = c.loop-entry in
    let x = c.keep_to in
    let next : l.entry-index + 1 ≡ suc l.entry-index = omega arith in
    let read = ap (λ m. at m l.entry-index) l.invariant ∙ kept_next g.top l.entry-index g.marks.now (omega arith) in
    ap (λ m. slice_set m l.entry-index x.result) l.invariant
    ∙ kept_more g.top l.entry-index x.result g.marks.now (omega arith) (x.ensures ∙ ap (keep_to g.top) read)
    ∙ ap (λ k. kept_to g.top k g.marks.now) (sym next)
