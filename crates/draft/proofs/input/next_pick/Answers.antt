use Rattle.draft.proofs.Reading.{pick_byte, no_pick}
use Rattle.draft.proofs.input.next_pick.Goals as goal

pub returns-in_err-byte : goal.returns-in_err-byte
returns-in_err-byte g c = no_pick c.in_err-byte.ensures c.from_residual.ensures

pub returns : goal.returns
returns g c = pick_byte c.in_ok-byte.byte c.in_ok-byte.ensures c.then_some.ensures
