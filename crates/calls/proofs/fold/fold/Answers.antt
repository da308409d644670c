use Rattle.std.proofs.Common.{ap, sym, take, arith}
use Rattle.std.proofs.Math.ListN.{length-take}
use Rattle.std.proofs.Math.Seq.{length-take-le}
use Rattle.words.specs.Definitions.{word}
use Rattle.models.specs.Iterator.{longest_of}
use Rattle.promises.specs.Book.{fold, lent}
use Rattle.promises.specs.Replies.{refusal_of}
use Rattle.promises.proofs.RefusalLaws.{record_fits}
use Rattle.promises.proofs.Outcomes.{outcome_zero}
use Rattle.promises.proofs.LentLaws.{refused_on, given_on, record_in, record_lacking, record_given}
use Rattle.calls.proofs.fold.fold.Goals as goal

pub returns-in_err-record_refusal : goal.returns-in_err-record_refusal
unfolding refusal_of lent
returns-in_err-record_refusal c =
    let r = c.in_err-record_refusal in
    refused_on c.args.held _ (fold c.args.i.0 c.args.k c.args.output.now) _ _ r.field-0.0 c.from_residual.ensures.1 r.ensures

pub slice_bounds-write_record-end : goal.slice_bounds-write_record-end
slice_bounds-write_record-end c =
    let p = c.args in
    let g = record_fits p.held.n p.held.k p.i.0 p.k (outcome_zero _ c.in_ok-record_refusal.ensures) in
    rw c.from-count.ensures (sym (length-take-le p.k _ (omega arith)))

pub write_record-requires : goal.write_record-requires
write_record-requires c =
    let p = c.args in
    let g = record_fits p.held.n p.held.k p.i.0 p.k (outcome_zero _ c.in_ok-record_refusal.ensures) in
    (omega arith, simp length-take (omega arith))

pub returns-then-split_into : goal.returns-then-split_into
unfolding refusal_of
returns-then-split_into c =
    let p = c.args in
    let r = c.split_into in
    let g = record_fits p.held.n p.held.k p.i.0 p.k (outcome_zero _ c.in_ok-record_refusal.ensures) in
    given_on p.held _ (fold p.i.0 p.k p.output.now) c.in_ok-record_refusal.ensures _
    (λ d h q. record_in p.held d h p.letters.now p.rows.now p.radius.now p.i.0 p.k p.output.now _ q.0 q.1 q.2
    (record_given p.rows.now p.radius.now p.held.n (longest_of p.held.n p.held.longest.0) p.k p.i.0 _ r.result _ r.ensures
    _ (ap (λ x. take x c.split_into.new.ends) c.from-count.ensures) c.if-split_into.true (omega arith) (word p.letters.now) p.output.now _ c.write_record.ensures))

pub returns : goal.returns
unfolding refusal_of
returns c =
    let p = c.args in
    let r = c.split_into in
    given_on p.held _ (fold p.i.0 p.k p.output.now) c.in_ok-record_refusal.ensures _
    (λ d h q. record_in p.held d h p.letters.now p.rows.now p.radius.now p.i.0 p.k p.output.now _ q.0 q.1 q.2
    (record_lacking p.rows.now p.radius.now p.held.n (longest_of p.held.n p.held.longest.0) p.k p.i.0 _ r.result _ r.ensures
    (word p.letters.now) p.output.now c.if-split_into.false))
