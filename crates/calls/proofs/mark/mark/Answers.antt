use Rattle.std.proofs.Common.{ap, ◌∙◌, ◌+◌, set}
use Rattle.promises.proofs.Outcomes.{handed_on}
use Rattle.promises.proofs.MarkingLaws.{mark_refused_on, mark_lacking_on, mark_done_on}
use Rattle.calls.proofs.mark.mark.Goals as goal

pub returns-in_err-letter_refusal : goal.returns-in_err-letter_refusal
returns-in_err-letter_refusal c =
    let a = c.args in
    let r = c.in_err-letter_refusal in
    rw (handed_on c.from_residual.result r.field-0.0 c.from_residual.ensures.1)
    (mark_refused_on a.held a.marks.now a.name r.field-0.0 r.ensures)

pub returns-then-room_for : goal.returns-then-room_for
returns-then-room_for c =
    let a = c.args in
    let r = c.room_for in
    mark_done_on a.held a.marks.now a.name c.in_ok-letter_refusal.ensures r.result r.ensures c.if-room_for.true _
    (c.store.ensures ∙ ap (λ j. set a.marks.now j (a.held.n + 1)) c.letter_index.ensures)

pub returns : goal.returns
returns c =
    let a = c.args in
    let r = c.room_for in
    mark_lacking_on a.held a.marks.now a.name c.in_ok-letter_refusal.ensures r.result r.ensures c.if-room_for.false
