use Rattle.std.proofs.Common.{[], ◌∷◌, ap}
use Rattle.promises.specs.Book.{mask, lent}
use Rattle.promises.specs.Replies.{gives, refusal_of}
use Rattle.promises.specs.Promises.{found_in}
use Rattle.promises.proofs.LentLaws.{refused_on, given_on}
use Rattle.calls.proofs.mask.mask.Goals as goal

pub returns-in_err-mask_refusal : goal.returns-in_err-mask_refusal
unfolding refusal_of lent
returns-in_err-mask_refusal c =
    let r = c.in_err-mask_refusal in
    refused_on c.args.held _ (mask c.args.i.0) _ _ r.field-0.0 c.from_residual.ensures.1 r.ensures

pub returns : goal.returns
unfolding refusal_of found_in
returns c =
    given_on c.args.held _ (mask c.args.i.0) c.in_ok-mask_refusal.ensures _
    (λ d h p. rw (p, ← c.entry.ensures) (ap (λ x. gives (x ∷ [])) c.mask_byte.ensures))
