-- Worked examples of unfolding: its numbers in their order, with the list as it was.
use mathlib.Core.Path.{◌≡◌, refl}
use mathlib.Core.List.{[], ◌∷◌, ◌++◌}
use Rattle.text.specs.Definitions.{bytes}
use Rattle.promises.specs.Answers.{gave, refused, refused_at, reply}
use Rattle.promises.specs.Replies.{unfold_reply}

-- broken off, of lengths that do not add up, and a list too short: 11 with its place
pub broken_first : unfold_reply (bytes "8,2,3,AB,4,CD") (1 ∷ []) ≡ reply (refused_at 11 13) (1 ∷ [])
unfolding unfold_reply bytes
broken_first = refl

-- the last two: 12
pub unequal_next : unfold_reply (bytes "8,2,3,AB,4,CD\n") (1 ∷ []) ≡ reply (refused 12) (1 ∷ [])
unfolding unfold_reply bytes
unequal_next = refl

-- a list of six entries: 5
pub short_last : unfold_reply (bytes "7,2,3,AB,4,CD\n") (1 ∷ 2 ∷ 3 ∷ 4 ∷ 5 ∷ 6 ∷ []) ≡ reply (refused 5) (1 ∷ 2 ∷ 3 ∷ 4 ∷ 5 ∷ 6 ∷ [])
unfolding unfold_reply bytes
short_last = refl

-- one of seven: the picks
pub exact_given : unfold_reply (bytes "7,2,3,AB,4,CD\n") (1 ∷ 2 ∷ 3 ∷ 4 ∷ 5 ∷ 6 ∷ 7 ∷ []) ≡ reply (gave (7 ∷ [])) (bytes "ABACDDC")
unfolding unfold_reply bytes
exact_given = refl

-- one of eight: the last entry as it was
pub later_kept : unfold_reply (bytes "7,2,3,AB,4,CD\n") (1 ∷ 2 ∷ 3 ∷ 4 ∷ 5 ∷ 6 ∷ 7 ∷ 8 ∷ []) ≡ reply (gave (7 ∷ [])) (bytes "ABACDDC" ++ 8 ∷ [])
unfolding unfold_reply bytes
later_kept = refl
