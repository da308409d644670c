use Rattle.std.proofs.lemmas.Result.{on_ok_weaker}
use Rattle.draft.proofs.Running.{picks_printed, refusal_printed}
use Rattle.draft.proofs.run.run.Goals as goal

pub returns-in-Ok : goal.returns-in-Ok
returns-in-Ok g c =
    on_ok_weaker c.take_picks.result (picks_printed (g.W.Write.contents c.print_header.new.output) c.begin.ensures c.in_ok-print_header.ensures c.in-Ok.is) c.take_picks.ensures

pub returns-in-Err : goal.returns-in-Err
returns-in-Err g c =
    on_ok_weaker c.print_refusal.result (λ a. refusal_printed (g.W.Write.contents c.print_header.new.output) c.begin.ensures c.in_ok-print_header.ensures c.in-Err.refusal c.in-Err.is
    (rw c.number.ensures at a)) c.print_refusal.ensures
