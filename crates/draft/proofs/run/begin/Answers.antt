use Rattle.std.proofs.Common.{sym, ap, ◌∙◌}
use Rattle.std.specs.Result.{result_ok}
use Rattle.std.proofs.lemmas.Result.{err_from_is_err_and}
use Rattle.draft.proofs.Running.{not_begun, not_refused, begun}
use Rattle.draft.proofs.run.begin.Goals as goal

pub returns-in_err-k : goal.returns-in_err-k
returns-in_err-k g c =
    let p = err_from_is_err_and c.from_residual.result c.from_residual.ensures.1 in
    rw (p.1, p.2) (not_begun c.first_line.ensures _ (sym c.ok_or.ensures.value ∙ c.in_err-k.was))

pub returns-in_err-draft : goal.returns-in_err-draft
returns-in_err-draft g c =
    absurd (not_refused c.first_line.ensures c.in_ok-k.k (c.ok_or.ensures.ok_part ∙ ap result_ok c.in_ok-k.was) c.in_err-draft.ensures)

pub returns : goal.returns
returns g c = begun c.first_line.ensures c.in_ok-k.k (c.ok_or.ensures.ok_part ∙ ap result_ok c.in_ok-k.was) c.in_ok-draft.ensures
