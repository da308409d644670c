use Rattle.std.proofs.Common.{◌≡◌, refl, [], ap, ◌∙◌, Some, None, Option as Maybe}
use Rattle.std.specs.Option.{ok_or}
use Rattle.models.specs.declared.Shorter.{Shorter}
use Rattle.iterator.specs.Says.{shorter_says}
use Rattle.promises.specs.declared.refusal.Refusal.TheVariants.{NoEnding}
use Rattle.promises.specs.Answers.{reply, next_says}
use Rattle.promises.specs.Book.{next, lent}
use Rattle.promises.specs.Replies.{or_no_ending, refusal_of}
use Rattle.promises.specs.Promises.{found_in}
use Rattle.promises.proofs.LentLaws.{refused_on, given_on}
use Rattle.calls.proofs.next.next.Goals as goal

-- where none is found, the centre belongs to no ending, or to the empty one
next_said : (found : Maybe Shorter) → next_says (ok_or found NoEnding) ≡ or_no_ending (shorter_says found)
next_said (Some e) = refl
next_said None = refl

pub returns-in_err-centre_refusal : goal.returns-in_err-centre_refusal
unfolding refusal_of lent
returns-in_err-centre_refusal c =
    let r = c.in_err-centre_refusal in
    refused_on c.args.held _ (next c.args.c.0) _ _ r.field-0.0 c.from_residual.ensures.1 r.ensures

pub returns : goal.returns
unfolding refusal_of found_in
returns c =
    given_on c.args.held _ (next c.args.c.0) c.in_ok-centre_refusal.ensures _
    (λ d h p. ap (λ o. reply (next_says o) []) c.ok_or.ensures.value ∙ ap (λ said. reply said []) (next_said c.next_shorter.result)
    ∙ ap (λ o. reply (or_no_ending o) []) c.next_shorter.ensures.computes
    ∙ rw (← h, ← p.0, ← p.1))
