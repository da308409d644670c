-- The marks (document 02, 2.7): "up to four marks, each a letter A to Z with the draft's length at that moment".
use Rattle.std.specs.Prelude.{Bool, true, false, cond, ◌||◌, List, [], ◌∷◌, map, ℕ, zero, suc, ◌-◌, leb, ltb, get_or, set, replicate}
use Rattle.std.proofs.Math.Option.{Option, some, none}
use Rattle.words.specs.Definitions.{first_letter}
use Rattle.promises.specs.Lifts.{table_size}

abbrev pub most_marks : ℕ
most_marks = 4

-- for each letter A to Z the length that it marks; none where it is no mark
abbrev pub Marks : Type 0
Marks = List (Option ℕ)

abbrev pub no_marks : Marks
no_marks = replicate table_size none

-- the length that a name marks
abbrev pub mark_at : Marks → (name : ℕ) → Option ℕ
mark_at marks name = get_or marks (name - first_letter) none

-- whether it marks one
abbrev pub is_mark : Option ℕ → Bool
is_mark none = false
is_mark (some m) = true

abbrev pub mark_length : Option ℕ → ℕ
mark_length none = 0
mark_length (some m) = m

-- how many names do
abbrev pub how_many : Marks → ℕ
how_many [] = 0
how_many (none ∷ marks) = how_many marks
how_many (some m ∷ marks) = suc (how_many marks)

-- the name is a mark already, or there are fewer than four: it is not "a fifth name"
abbrev pub room_for : Marks → (name : ℕ) → Bool
room_for marks name = is_mark (mark_at marks name) || ltb (how_many marks) most_marks

-- "setting a name again moves it"
abbrev pub set_mark : Marks → (name m : ℕ) → Marks
set_mark marks name m = set marks (name - first_letter) (some m)

-- "drops marks of greater length": m and shorter ones stay
abbrev pub up_to : (m : ℕ) → Option ℕ → Option ℕ
up_to m none = none
up_to m (some x) = cond (leb x m) (some x) none

abbrev pub drop_longer : (m : ℕ) → Marks → Marks
drop_longer m marks = map (up_to m) marks

-- As they are stored: 0 where the letter is no mark, else the length that it marks and one more

abbrev pub entry_of : Option ℕ → ℕ
entry_of none = 0
entry_of (some m) = suc m

abbrev pub entries : Marks → List ℕ
entries marks = map entry_of marks

-- and as any stored numbers are read
abbrev pub read_mark : ℕ → Option ℕ
read_mark zero = none
read_mark (suc m) = some m

abbrev pub marks_in : (stored : List ℕ) → Marks
marks_in stored = map read_mark stored

-- what becomes of an entry: top is that of length m
abbrev pub keep_to : (top entry : ℕ) → ℕ
keep_to top entry = cond (leb entry top) entry 0
