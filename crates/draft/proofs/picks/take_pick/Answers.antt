use Rattle.std.specs.Prelude.{[], take}
use Rattle.std.proofs.lemmas.Result.{MatchResult-from_err}
use Rattle.draft.specs.Filling.{byte_count, is_last}
use Rattle.draft.proofs.picks.take_pick.Goals as goal

pub returns-in_err-write_all-clause-unwritten : goal.returns-in_err-write_all-clause-unwritten
returns-in_err-write_all-clause-unwritten g c =
    let a = c.answer-told in
    MatchResult-from_err c.from_residual.result _ _ c.from_residual.ensures.0 (λ e. record {
      over = is_last a.result;
      line = take (byte_count a.result) a.new.line;
      fills = a.ensures.fills_on;
    })

pub returns-clause-one_more : goal.returns-clause-one_more
returns-clause-one_more g c = (c.answer-told.ensures.fills_on []).more
