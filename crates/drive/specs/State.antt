-- The state in the parts that are lent.
use Rattle.std.specs.Prelude.{◌≡◌}
use Rattle.promises.specs.declared.Draft.{Draft}
use Rattle.promises.specs.State.{draft_in}
use Rattle.drive.specs.declared.state.State.{State}

abbrev pub draft_of : State → Draft
draft_of s = draft_in s.numbers s.letters.now s.codes.now s.lifts.now s.marks.now s.centres.now s.places.now

-- the parts are those that were lent
abbrev pub SameParts : State → State → Type 0
SameParts s t =
    (s.letters.ghost_name ≡ t.letters.ghost_name)
    × (s.codes.ghost_name ≡ t.codes.ghost_name)
    × (s.lifts.ghost_name ≡ t.lifts.ghost_name)
    × (s.marks.ghost_name ≡ t.marks.ghost_name)
    × (s.centres.ghost_name ≡ t.centres.ghost_name)
    × (s.places.ghost_name ≡ t.places.ghost_name)
