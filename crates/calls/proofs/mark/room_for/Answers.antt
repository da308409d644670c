use Rattle.std.proofs.Common.{sym, ap, ◌∙◌, nat_lt, arith}
use Rattle.promises.proofs.MarkLaws.{room_new, many_counted}
use Rattle.calls.proofs.mark.room_for.Goals as goal

pub returns-else-entry_of-gt0 : goal.returns-else-entry_of-gt0
returns-else-entry_of-gt0 c =
    let m = c.args.marks.now in
    ap (λ n. nat_lt n 4) (c.how_many.ensures ∙ sym (many_counted m)) ∙ room_new m c.args.name (omega arith)
