use Rattle.promises.proofs.Outcomes.{handed_on}
use Rattle.promises.proofs.WritingLaws.{start_refused, start_begun_in}
use Rattle.calls.proofs.start.start.Goals as goal

pub returns-in_err-start_refusal : goal.returns-in_err-start_refusal
returns-in_err-start_refusal c =
    let r = c.in_err-start_refusal in
    rw (handed_on c.from_residual.result r.field-0.0 c.from_residual.ensures.1) (start_refused _ c.args.k r.field-0.0 r.ensures)

pub returns : goal.returns
returns c =
    let g = c.clear_tables.ensures in
    let e = c.clear.ensures in
    rw c.from.ensures (start_begun_in _ c.args.k c.in_ok-start_refusal.ensures _ _ _ _ _ _
    g.letters_after e.codes_after g.lifted g.marked e.centred e.placed)
