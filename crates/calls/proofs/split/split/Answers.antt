use Rattle.std.proofs.Common.{length, ap, sym, take, arith}
use Rattle.std.proofs.Math.Seq.{length-take-le}
use Rattle.models.specs.Iterator.{longest_of}
use Rattle.promises.specs.Book.{split, lent}
use Rattle.promises.specs.Replies.{refusal_of}
use Rattle.promises.proofs.RefusalLaws.{split_fits}
use Rattle.promises.proofs.Outcomes.{outcome_zero}
use Rattle.promises.proofs.LentLaws.{refused_on, given_on, split_in_lem, split_lacking, split_given}
use Rattle.calls.proofs.split.split.Goals as goal

pub returns-in_err-split_refusal : goal.returns-in_err-split_refusal
unfolding refusal_of lent
returns-in_err-split_refusal c =
    let r = c.in_err-split_refusal in
    refused_on c.args.held _ (split c.args.i.0 c.args.k c.args.ends.now) _ _ r.field-0.0 c.from_residual.ensures.1 r.ensures

pub slice_bounds-turn_count-end-then-split_into : goal.slice_bounds-turn_count-end-then-split_into
slice_bounds-turn_count-end-then-split_into c =
    let p = c.args in
    let room = (split_fits p.held.n p.held.k p.i.0 p.k (length p.ends.now) (outcome_zero _ c.in_ok-split_refusal.ensures)).1 in
    rw c.from-count.ensures (sym (length-take-le _ _ (omega arith)))

pub returns-then-split_into : goal.returns-then-split_into
unfolding refusal_of
returns-then-split_into c =
    let p = c.args in
    let r = c.split_into in
    let room = (split_fits p.held.n p.held.k p.i.0 p.k (length p.ends.now) (outcome_zero _ c.in_ok-split_refusal.ensures)).1 in
    given_on p.held _ (split p.i.0 p.k p.ends.now) c.in_ok-split_refusal.ensures _
    (λ d h q. split_in_lem p.held d h p.rows.now p.radius.now p.i.0 p.k p.ends.now _ q.0 q.1
    (split_given p.rows.now p.radius.now p.held.n (longest_of p.held.n p.held.longest.0) p.k p.i.0 p.ends.now r.result _ r.ensures
    _ (ap (λ x. take x c.split_into.new.ends) c.from-count.ensures) c.if-split_into.true room _ c.turn_count.ensures))

pub returns : goal.returns
unfolding refusal_of
returns c =
    let p = c.args in
    let r = c.split_into in
    given_on p.held _ (split p.i.0 p.k p.ends.now) c.in_ok-split_refusal.ensures _
    (λ d h q. split_in_lem p.held d h p.rows.now p.radius.now p.i.0 p.k p.ends.now _ q.0 q.1
    (split_lacking p.rows.now p.radius.now p.held.n (longest_of p.held.n p.held.longest.0) p.k p.i.0 p.ends.now r.result _ r.ensures
    c.if-split_into.false))
