use Rattle.std.proofs.Common.{[], ◌∷◌, ap, ◌∙◌}
use Rattle.promises.specs.Book.{radius, lent}
use Rattle.promises.specs.Replies.{gives, refusal_of}
use Rattle.promises.specs.Promises.{found_in}
use Rattle.promises.proofs.LentLaws.{refused_on, given_on}
use Rattle.calls.proofs.radius.radius.Goals as goal

pub returns-in_err-centre_refusal : goal.returns-in_err-centre_refusal
unfolding refusal_of lent
returns-in_err-centre_refusal c =
    let r = c.in_err-centre_refusal in
    refused_on c.args.held _ (radius c.args.c.0) _ _ r.field-0.0 c.from_residual.ensures.1 r.ensures

pub returns : goal.returns
unfolding refusal_of found_in
returns c =
    given_on c.args.held _ (radius c.args.c.0) c.in_ok-centre_refusal.ensures _
    (λ d h p. ap (λ x. gives (x ∷ [])) c.radius_at.ensures.computes ∙ rw (← h, ← p))
