use Rattle.std.proofs.Common.{[], refl, arith}
use Rattle.draft.proofs.Filling.{fed_bound, fills}
use Rattle.draft.proofs.answer.answer.Goals as goal

pub tell-requires : goal.tell-requires
tell-requires c = (c.requires.0, omega (arith, fed_bound (c.feed-step.ensures [])), c.requires.1)

pub returns-clause-fills_on : goal.returns-clause-fills_on
returns-clause-fills_on c =
    λ marks. fills (c.feed-step.ensures marks) c.args.draft.now.numbers.n c.feed-step.result c.tell.result _ refl refl refl refl c.tell.ensures
