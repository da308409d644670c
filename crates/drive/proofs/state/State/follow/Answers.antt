-- One call more, or the end of the script.
use Rattle.std.proofs.Common.{◌*◌, arith, ◌∙◌}
use Rattle.drive.proofs.Parts.{part_whole}
use Rattle.drive.proofs.Onward.{drives_halted, drives_end, follows_next}
use Rattle.drive.proofs.state.State.follow.Goals as goal

pub returns-in_default-clause-drives : goal.returns-in_default-clause-drives
returns-in_default-clause-drives c =
    drives_halted c.loop-made.invariant.follows _ (rw (part_whole c.args.script.now (6 * c.loop-made.made), c.in_default.is) at c.advance.ensures.advances)

pub loop-made-preserved : goal.loop-made-preserved
loop-made-preserved c =
    let i = c.loop-made.invariant in
    let s = c.advance.ensures.same in
    let b = c.advance.ensures.buffers in
    record {
      numbers = λ e. c.advance.ensures.numbers (i.numbers e);
      same = (s.0 ∙ i.same.0, s.1 ∙ i.same.1, s.2 ∙ i.same.2, s.3 ∙ i.same.3, s.4 ∙ i.same.4, s.5 ∙ i.same.5);
      buffers = (b.0 ∙ i.buffers.0, b.1 ∙ i.buffers.1, b.2 ∙ i.buffers.2);
      follows = rw b.2 (follows_next i.follows _ (omega arith) (omega arith)
          (rw (part_whole c.args.script.now (6 * c.loop-made.made), c.in-Some.is) at c.advance.ensures.advances));
    }

pub returns-clause-drives : goal.returns-clause-drives
returns-clause-drives c =
    drives_end c.loop-made.invariant.follows c.min-calls.result (rw c.loop-made.auto.answers c.min-calls.ensures) (omega arith) (omega arith)
