use Rattle.std.proofs.Common.{◌≡◌, ap, ◌∙◌, arith, ◌-◌, min, length}
use Rattle.words.specs.Definitions.{most_picks}
use Rattle.promises.proofs.Outcomes.{handed_on, outcome_zero}
use Rattle.promises.proofs.RefusalLaws.{letter_passed}
use Rattle.promises.proofs.BackLaws.{cut_zeros, back_state}
use Rattle.promises.proofs.MarkingLaws.{back_refused, back_lacking, back_done}
use Rattle.calls.proofs.back.back.Goals as goal

pub returns-in_err-letter_refusal : goal.returns-in_err-letter_refusal
returns-in_err-letter_refusal c =
    let r = c.in_err-letter_refusal in
    rw (handed_on c.from_residual.result r.field-0.0 c.from_residual.ensures.1) (back_refused _ c.args.name r.field-0.0 r.ensures)

pub returns-then-entry-eq0 : goal.returns-then-entry-eq0
returns-then-entry-eq0 c =
    let e = c.entry_of-entry in
    back_lacking _ c.args.name c.in_ok-letter_refusal.ensures e.result e.ensures c.if-entry-eq0.true

pub returns : goal.returns
returns c =
    let p = c.args in
    let e = c.entry_of-entry in
    let m = c.min-kept in
    let k = c.clear.ensures in
    let r = c.feed_again-numbers.ensures in
    let size : length p.letters.now ≡ most_picks = omega arith in
    let h = letter_passed p.held.n p.held.k p.name (outcome_zero _ c.in_ok-letter_refusal.ensures) in
    back_done _ p.name c.in_ok-letter_refusal.ensures e.result e.ensures c.if-entry-eq0.false _
    (back_state _ e.result m.result c.if-entry-eq0.false size h.picks
    (m.ensures ∙ ap (λ x. min (x - 1) p.held.n) c.from.ensures) _ _ _ _ _ _ _ _ _
    c.drop_longer.ensures (c.cut.ensures ∙ cut_zeros m.result p.letters.now (omega arith)) k.codes_after k.centred k.placed r.0 r.1 r.2)
