use Rattle.std.proofs.Common.{[], ◌∷◌, ap, sym, ◌∙◌}
use Rattle.promises.specs.Lifts.{lift_in}
use Rattle.promises.specs.Book.{lift, lent}
use Rattle.promises.specs.Replies.{gives, refusal_of}
use Rattle.promises.specs.Promises.{found_in}
use Rattle.promises.proofs.LentLaws.{refused_on, given_on}
use Rattle.calls.proofs.lift.lift.Goals as goal

pub returns-in_err-letter_refusal : goal.returns-in_err-letter_refusal
unfolding refusal_of lent
returns-in_err-letter_refusal c =
    let r = c.in_err-letter_refusal in
    refused_on c.args.held _ (lift c.args.letter) _ _ r.field-0.0 c.from_residual.ensures.1 r.ensures

pub returns : goal.returns
unfolding refusal_of found_in
returns c =
    given_on c.args.held _ (lift c.args.letter) c.in_ok-letter_refusal.ensures _
    (λ d h p. ap (λ x. gives (x ∷ [])) (c.lift_in.ensures ∙ ap (λ t. lift_in t c.args.letter) (sym p)))
