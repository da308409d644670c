use Rattle.std.specs.Prelude.{◌≡◌}
use Rattle.drive.specs.Drives.{held_in}
use Rattle.drive.specs.Lending.{held_by, SameBuffers}
use Rattle.drive.specs.State.{draft_of, SameParts}
use Rattle.drive.proofs.Onward.{Follows}
use Rattle.drive.proofs.state.State.follow.Given as goal

abbrev pub invariant-loop-made : goal.invariant-loop-made
invariant-loop-made l = record {
  numbers : held_in l.fn.numbers ≡ l.fn.self.numbers → held_in l.numbers ≡ l.self.numbers;
  same : SameParts l.self l.fn.self;
  buffers : SameBuffers l.buffers l.fn.buffers;
  follows : Follows (draft_of l.fn.self) l.script (held_by l.fn.buffers) l.fn.answers l.made l.lent (draft_of l.self) (held_by l.buffers) l.answers;
}
