use Rattle.std.proofs.Common.{refl}
use Rattle.drive.specs.Lending.{held_by}
use Rattle.drive.proofs.Advancing.{stops_unknown, stops_short, lent_so, goes_on}
use Rattle.drive.proofs.state.State.advance.Goals as goal

pub returns-in_err-q-clause-advances : goal.returns-in_err-q-clause-advances
returns-in_err-q-clause-advances c =
    rw c.from_residual.ensures (stops_unknown c.args.script.now (held_by c.args.buffers.now) c.args.answer.now c.args.lent _ c.in_err-q.ensures)

pub returns-in_err-end-clause-advances : goal.returns-in_err-end-clause-advances
returns-in_err-end-clause-advances c =
    rw c.from_residual-in_err-end.ensures
    (stops_short (held_by c.args.buffers.now) c.args.lent c.in_ok-q.ensures c.requires.script c.requires.lent (c.sizes.ensures c.in_ok-q.q.x)
    c.args.answer.now _ (rw c.sizes-there.ensures at c.in_err-end.ensures))

pub call-told-requires : goal.call-told-requires
call-told-requires c =
    lent_so (held_by c.args.buffers.now) c.args.lent c.in_ok-q.ensures c.requires.script c.requires.lent (c.sizes.ensures c.in_ok-q.q.x)
    (rw c.sizes-there.ensures at c.in_ok-end.ensures)

pub returns-clause-advances : goal.returns-clause-advances
returns-clause-advances c =
    goes_on (held_by c.args.buffers.now) c.args.lent c.in_ok-q.ensures c.requires.script c.requires.lent (c.sizes.ensures c.in_ok-q.q.x)
    (rw c.sizes-there.ensures at c.in_ok-end.ensures) c.call-told.auto.list c.call-told.auto.bytes c.call-told.ensures.makes refl refl
    c.copy_from_slice.ensures.after
