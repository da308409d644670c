use Rattle.std.proofs.Common.{sym, ◌∙◌}
use Rattle.draft.proofs.Taking.{none_taken, ends, taken_last, taken_then}
use Rattle.draft.proofs.picks.take_picks.Goals as goal

pub returns-in_default : goal.returns-in_default
returns-in_default g c = c.loop-draft.invariant _ _ (ends c.loop-draft.draft (g.W.Write.contents c.loop-draft.output) c.next_pick.ensures c.in_default.is)

pub returns-then-is_break : goal.returns-then-is_break
returns-then-is_break g c =
    c.loop-draft.invariant _ _ (taken_last c.in-Some.pick c.next_pick.ensures c.in-Some.is c.in_ok-take_pick.ensures.written
    (sym c.is_break.ensures ∙ c.if-is_break.true))

pub loop-draft-preserved : goal.loop-draft-preserved
loop-draft-preserved g c left written rest =
    c.loop-draft.invariant left written (taken_then c.in-Some.pick c.next_pick.ensures c.in-Some.is c.in_ok-take_pick.ensures.written
    (sym c.is_break.ensures ∙ c.if-is_break.false) rest)

pub returns : goal.returns
returns g c = c.loop-draft.invariant _ _ (none_taken c.loop-draft.draft (g.R.Read.remaining c.loop-draft.input) (g.W.Write.contents c.loop-draft.output))
