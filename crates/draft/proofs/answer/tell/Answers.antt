use Rattle.std.proofs.Common.{refl}
use Rattle.draft.specs.Output.{line_of}
use Rattle.draft.proofs.answer.tell.Goals as goal

pub returns-in-Taken : goal.returns-in-Taken
unfolding line_of
returns-in-Taken c =
    rw c.in-Taken.is (record {
      over = refl;
      counts = c.pick_line.ensures.prefix_len;
      bytes = rw c.ending_length-ending.ensures at c.pick_line.ensures.line_after;
    })

pub returns-in-Refused : goal.returns-in-Refused
unfolding line_of
returns-in-Refused c =
    rw c.in-Refused.is (record {
      over = refl;
      counts = c.refusal_line.ensures.prefix_len;
      bytes = c.refusal_line.ensures.line_after;
    })
