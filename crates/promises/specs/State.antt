-- States: of given parts, the one that a start makes, and those that picks make of it.
use Rattle.std.specs.Prelude.{List, [], ◌∷◌, ℕ, suc, ◌+◌, take, set, replicate}
use Rattle.words.specs.Definitions.{most_picks}
use Rattle.cells.specs.declared.Centres.{Centres}
use Rattle.cells.specs.declared.Places.{Places}
use Rattle.cells.specs.declared.Numbers.{Numbers}
use Rattle.models.specs.Core.{Arrays, arrays_in, centres_in, places_in, cleared, append}
use Rattle.promises.specs.declared.Draft.{Draft}
use Rattle.promises.specs.Lifts.{fixed_lifts, lift_in}
use Rattle.promises.specs.Marks.{Marks, no_marks, set_mark, drop_longer, entries, marks_in}
use Rattle.promises.specs.Book.{Book}

-- a state of these numbers, letters, codes, lifts, marks and arrays by centre and by place
abbrev pub draft_in : Numbers → (letters codes lifts marks : List ℕ) → Centres → Places → Draft
draft_in numbers letters codes lifts marks centres places =
    record { numbers = numbers; letters = letters; codes = codes; lifts = lifts; marks = marks; centres = centres; places = places }

-- what the iterator and the engine have: all that is stored but n, K, the letters, the lifts and the marks. The iterator's letters are the
-- codes
abbrev pub arrays_of : Draft → Arrays
arrays_of d = arrays_in d.codes d.centres d.places d.numbers.longest.0

abbrev pub state_with : (n k : ℕ) (letters lifts marks : List ℕ) → Arrays → Draft
state_with n k letters lifts marks a =
    draft_in (record { n = n; k = k; longest = record { 0 = a.iterator.longest } }) letters a.iterator.letters lifts marks (centres_in a) (places_in a)

-- no picks under these lifts, with these marks: every entry is 0 but the row word and the gathered word of prefix 0, which are 1; the
-- longest ending, which is empty, has centre 1
abbrev pub empty_under : (K : ℕ) (lifts : List ℕ) → Marks → Draft
empty_under K lifts marks = state_with 0 K (replicate most_picks 0) lifts (entries marks) cleared

-- "Start: K, giving an empty draft"; "start brings the fixed one back"; "Start drops all marks"
abbrev pub fresh : ℕ → Draft
fresh K = empty_under K fixed_lifts no_marks

-- these lifts, and all else as it is
abbrev pub with_lifts : Draft → (lifts : List ℕ) → Draft
with_lifts d lifts = record d { lifts = lifts }

-- these entries as marks, and all else as it is
abbrev pub with_marks : Draft → (marks : List ℕ) → Draft
with_marks d marks = record d { marks = marks }

-- a pick's code: its lift in force
abbrev pub code_in : Draft → (pick : ℕ) → ℕ
code_in d pick = lift_in d.lifts pick

-- one pick more: its letter is stored, and the core takes its code; no visit list, for nothing of it is stored
unfoldable pub with_pick : Draft → (pick : ℕ) → Draft
unfolding append
with_pick d pick =
    state_with (d.numbers.n + 1) d.numbers.k (set d.letters d.numbers.n pick) d.lifts d.marks
    (append d.numbers.k d.numbers.n (code_in d pick) (arrays_of d) []).arrays

-- the picks one after another
unfoldable pub with_picks : Draft → (picks : List ℕ) → Draft
unfolding with_pick
with_picks d [] = d
with_picks d (pick ∷ picks) = with_picks (with_pick d pick) picks

-- the state of a book: its letters fed to the empty draft under its lifts, with its marks
abbrev pub state_of_book : Book → Draft
state_of_book b = with_picks (empty_under b.K b.lifts b.marks) b.row

-- Marks, of any stored numbers

abbrev pub marks_of : Draft → Marks
marks_of d = marks_in d.marks

-- the name marks the draft's length, and all else is as it is
abbrev pub with_mark : Draft → (name : ℕ) → Draft
with_mark d name = with_marks d (entries (set_mark (marks_of d) name d.numbers.n))

-- the letters of the picks
abbrev pub picks_of : Draft → List ℕ
picks_of d = take d.numbers.n d.letters

-- "all else but marks and lifts to exactly what feeding only those picks would have left": the first m of them, or all where there are fewer
unfoldable pub cut_to : Draft → (m : ℕ) → Draft
unfolding with_picks
cut_to d m = with_picks (empty_under d.numbers.k d.lifts (drop_longer m (marks_of d))) (take m (picks_of d))

-- what the core makes of these codes, one after another
unfoldable pub append_all : (K n : ℕ) → Arrays → (codes : List ℕ) → Arrays
unfolding append
append_all K n a [] = a
append_all K n a (code ∷ codes) = append_all K (suc n) (append K n code a []).arrays codes
