use Rattle.std.proofs.Common.{[], ◌∷◌, ap, ◌∙◌}
use Rattle.promises.specs.Book.{longest, lent}
use Rattle.promises.specs.Replies.{gives, refusal_of}
use Rattle.promises.specs.Promises.{found_in}
use Rattle.promises.proofs.LentLaws.{refused_on, given_on}
use Rattle.calls.proofs.longest.longest.Goals as goal

pub returns-in_err-longest_refusal : goal.returns-in_err-longest_refusal
unfolding refusal_of lent
returns-in_err-longest_refusal c =
    let r = c.in_err-longest_refusal in
    refused_on c.args.held _ longest _ _ r.field-0.0 c.from_residual.ensures.1 r.ensures

pub returns : goal.returns
unfolding refusal_of found_in
returns c =
    given_on c.args.held _ longest c.in_ok-longest_refusal.ensures _
    (λ d h p. ap (λ x. gives (x ∷ [])) c.longest.ensures.computes ∙ rw (← h))
