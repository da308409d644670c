-- What an answer says: the values it gives, or the number under which it refuses.
use Rattle.std.specs.Prelude.{◌≡◌, ◌⊎◌, Option, Some, None, Result, Ok, Err, List, [], ◌∷◌, ◌++◌, ℕ, zero, suc, length, drop}
use Rattle.std.specs.Prelude.{codes}
use Rattle.std.specs.Fmt.{decimal}
use Rattle.cells.specs.declared.Centre.{Centre}
use Rattle.models.specs.declared.Shorter.{Shorter}
use Rattle.promises.specs.declared.Answered.{Answered}
use Rattle.promises.specs.declared.FeedAnswer.{FeedAnswer}
use Rattle.promises.specs.declared.FeedAnswer.TheVariants.{Taken, Refused}
use Rattle.promises.specs.declared.refusal.Refusal.{Refusal}
use Rattle.promises.specs.declared.refusal.Refusal.TheVariants.{Sections, NotALetter, ShortVisits, OutOfRange, TooLong, NotRising, NoDraft, Full, NoSplit, NoEnding, NoRecord, Unequal, ShortEnds, TableSize, ZeroLift, NotEmpty, NoMark, FifthName}
use Rattle.layout.specs.declared.Turn.{Turn}
use Rattle.layout.specs.declared.Turn.TheVariants.{OnPick, Between}
use Rattle.layout.specs.declared.Section.{Section}
use Rattle.layout.specs.declared.Found.{Found}

pub data Said : Type 0 where
  gave : List ℕ → Said
  refused : (number : ℕ) → Said
  -- "a place coming beside the number where one is named"
  refused_at : (number place : ℕ) → Said

-- refused under a number, with a place or without
abbrev pub Under : Said → (number : ℕ) → Type 0
Under said number = (said ≡ refused number) ⊎ ((place : ℕ) × (said ≡ refused_at number place))

-- what is said, and the lent list as it stands afterwards; [] where none is lent
pub record Reply : Type 0 where
  pub said : Said
  pub list : List ℕ

abbrev pub reply : Said → List ℕ → Reply
reply said list = record { said = said; list = list }

-- "On success, entries past those named keep theirs.": the list with these entries in front
abbrev pub filled : (front list : List ℕ) → List ℕ
filled front list = front ++ drop (length front) list

-- The paper's number for each refusal, and the place that it names, if it names one

abbrev pub number_of : Refusal → ℕ
number_of Sections = 1
number_of NotALetter = 2
number_of ShortVisits = 3
number_of OutOfRange = 4
number_of TooLong = 5
number_of NotRising = 6
number_of NoDraft = 7
number_of Full = 8
number_of NoSplit = 9
number_of NoEnding = 10
number_of (NoRecord place) = 11
number_of Unequal = 12
number_of ShortEnds = 13
number_of TableSize = 14
number_of (ZeroLift place) = 15
number_of NotEmpty = 16
number_of NoMark = 17
number_of FifthName = 18

abbrev pub place_of : Refusal → Option ℕ
place_of (NoRecord place) = Some place
place_of (ZeroLift place) = Some place
place_of refusal = None

abbrev pub refused_with : (number : ℕ) → (place : Option ℕ) → Said
refused_with number None = refused number
refused_with number (Some place) = refused_at number place

abbrev pub refusal_says : Refusal → Said
refusal_says refusal = refused_with (number_of refusal) (place_of refusal)

-- What tests say whose number this is: 0 where all are passed
abbrev pub outcome : (number : ℕ) → Said
outcome zero = gave []
outcome (suc number) = refused (suc number)

-- The paper's values for each answer

-- `values` are those of an accepted call
abbrev pub says : {A : Type 0} → (A → List ℕ) → Result A Refusal → Said
says values (Ok x) = gave (values x)
says values (Err refusal) = refusal_says refusal

-- done, with no value
abbrev pub done_says : {A : Type 0} → Result A Refusal → Said
done_says answer = says (λ _. []) answer

-- a number: a mask, a radius, a lift, a turn count, a count of bytes or of picks
abbrev pub number_says : Result ℕ Refusal → Said
number_says answer = says (λ number. number ∷ []) answer

-- in half picks
abbrev pub centre_says : Result Centre Refusal → Said
centre_says answer = says (λ (c : Centre). c.0 ∷ []) answer

-- the centre in half picks, then the length and the least period
abbrev pub next_says : Result Shorter Refusal → Said
next_says answer = says (λ (s : Shorter). s.centre.0 ∷ s.length ∷ s.period ∷ []) answer

-- the mask, and the count of visits
abbrev pub feed_says : FeedAnswer → Said
feed_says (Taken mask count) = gave (mask ∷ count ∷ [])
feed_says (Refused number) = refused number

-- What a call by value returns: start, load, mark and back, which give no value; and feed
abbrev pub Changed : Type 0
Changed = Answered (Result Unit Refusal)

abbrev pub Fed : Type 0
Fed = Answered FeedAnswer

-- What a reader yields, in four numbers: 1 for a turn on a pick, 2 for one between two picks, 0 for none; the section's length, the turn's
-- place; and the place after it. A reader refuses nothing

abbrev pub turn_numbers : (length : ℕ) → Turn → (next : ℕ) → List ℕ
turn_numbers length (OnPick place) next = 1 ∷ length ∷ place.0 ∷ next ∷ []
turn_numbers length (Between place) next = 2 ∷ length ∷ place.0 ∷ next ∷ []

abbrev pub yielded_numbers : Option Section → (next : ℕ) → List ℕ
yielded_numbers (Some section) next = turn_numbers section.length section.turn next
yielded_numbers None next = 0 ∷ 0 ∷ 0 ∷ next ∷ []

abbrev pub found_numbers : Found → List ℕ
found_numbers f = yielded_numbers f.yielded f.next

-- How a refusal is printed: "refused 15 at 3"

abbrev pub at_text : (place : Option ℕ) → List ℕ
at_text None = []
at_text (Some place) = codes " at " ++ decimal place

abbrev pub refusal_text : Refusal → List ℕ
refusal_text refusal = codes "refused " ++ decimal (number_of refusal) ++ at_text (place_of refusal)
