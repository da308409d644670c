-- The calls of a run, and the plain book that is kept beside it, "from the calls' arguments alone, the state not among them".
use Rattle.std.specs.Prelude.{Bool, cond, ◌&&◌, List, [], ◌∷◌, ◌++◌, ℕ, eqb, leb, ltb, length, take}
use Rattle.words.specs.Definitions.{most_picks, most_sections, most_visits, first_letter, last_letter}
use Rattle.words.specs.Ranges.{between}
use Rattle.promises.specs.Lifts.{fixed_lifts, table_size, lifted_by, none_zero}
use Rattle.promises.specs.Marks.{Marks, no_marks, mark_at, is_mark, mark_length, room_for, set_mark, drop_longer}

-- A query: a call that only reads the state, with its arguments; a list is lent as it stands. Places are in whole picks, centres in half
-- picks.
pub data Query : Type 0 where
  split : (i k : ℕ) (ends : List ℕ) → Query
  longest : Query
  mask : (i : ℕ) → Query
  radius : (c : ℕ) → Query
  next : (c : ℕ) → Query
  fold : (i k : ℕ) (output : List ℕ) → Query
  lift : (letter : ℕ) → Query

-- A call with its arguments, the state not among them
pub data Call : Type 0 where
  start : (K : ℕ) → Call
  feed : (pick : ℕ) (visits : List ℕ) → Call
  load : (lifts : List ℕ) → Call
  mark : (name : ℕ) → Call
  back : (name : ℕ) → Call
  ask : (q : Query) → Call

-- the list that is lent to be filled, as it was lent; [] where none is
unfoldable pub lent : Call → List ℕ
lent (start K) = []
lent (feed pick visits) = visits
lent (load lifts) = []
lent (mark name) = []
lent (back name) = []
lent (ask (split i k ends)) = ends
lent (ask longest) = []
lent (ask (mask i)) = []
lent (ask (radius c)) = []
lent (ask (next c)) = []
lent (ask (fold i k output)) = output
lent (ask (lift letter)) = []

-- "It holds K and a row of letters"; "the plain book holds 26 lifts too"; "the plain book keeps marks by these same rules"
pub record Book : Type 0 where
  pub K : ℕ
  pub lifts : List ℕ
  pub row : List ℕ
  pub marks : Marks

abbrev pub book : (K : ℕ) (lifts row : List ℕ) → Marks → Book
book K lifts row marks = record { K = K; lifts = lifts; row = row; marks = marks }

-- what is read of the row: "two picks are the same when their lifts are equal"
abbrev pub lifted : Book → List ℕ
lifted b = lifted_by b.lifts b.row

-- "A start with K from 1 to 8"
abbrev pub start_taken : ℕ → Bool
start_taken K = between 1 most_sections K

-- "when the pick is A to Z, the visit list has at least 19 entries and the row has under 2,048 letters"
abbrev pub feed_taken : Book → ℕ → ℕ → Bool
feed_taken b pick entries = between first_letter last_letter pick && (leb most_visits entries && ltb (length b.row) most_picks)

-- "a feed's prefix is the row with its pick"
abbrev pub fed_row : Book → (pick : ℕ) → List ℕ
fed_row b pick = b.row ++ pick ∷ []

abbrev pub fed_book : Book → (pick : ℕ) → Book
fed_book b pick = book b.K b.lifts (fed_row b pick) b.marks

-- "an accepted feed's endings are read by the lifts the book held at that feed"
abbrev pub fed_lifted : Book → (pick : ℕ) → List ℕ
fed_lifted b pick = lifted_by b.lifts (fed_row b pick)

-- "a load of 26 bytes, none of them 0, while its row is empty"
abbrev pub load_taken : Book → (lifts : List ℕ) → Bool
load_taken b lifts = eqb (length lifts) table_size && (none_zero lifts && eqb (length b.row) 0)

abbrev pub loaded_book : Book → (lifts : List ℕ) → Book
loaded_book b lifts = book b.K lifts b.row b.marks

-- a name A to Z that is a mark already, or not a fifth
abbrev pub mark_taken : Book → (name : ℕ) → Bool
mark_taken b name = between first_letter last_letter name && room_for b.marks name

-- "with the draft's length at that moment"
abbrev pub marked_book : Book → (name : ℕ) → Book
marked_book b name = book b.K b.lifts b.row (set_mark b.marks name (length b.row))

-- a name A to Z that is a mark
abbrev pub back_taken : Book → (name : ℕ) → Bool
back_taken b name = between first_letter last_letter name && is_mark (mark_at b.marks name)

-- "going back cutting its row to the mark's length", m, "and drops marks of greater length"
abbrev pub cut_book : Book → (m : ℕ) → Book
cut_book b m = book b.K b.lifts (take m b.row) (drop_longer m b.marks)

abbrev pub back_book : Book → (name : ℕ) → Book
back_book b name = cut_book b (mark_length (mark_at b.marks name))

-- "Start drops all marks"
abbrev pub started_book : (K : ℕ) → Book
started_book K = book K fixed_lifts [] no_marks

-- "writes K and clears the row", and takes "the fixed ones at each accepted start"; "adds its pick at the end"; takes the lifts of a load;
-- sets a mark; goes back to one; "Every other call leaves the book alone."
unfoldable pub write : Book → Call → Book
write b (start K) = cond (start_taken K) (started_book K) b
write b (feed pick visits) = cond (feed_taken b pick (length visits)) (fed_book b pick) b
write b (load lifts) = cond (load_taken b lifts) (loaded_book b lifts) b
write b (mark name) = cond (mark_taken b name) (marked_book b name) b
write b (back name) = cond (back_taken b name) (back_book b name) b
write b (ask q) = b

unfoldable pub write_all : Book → List Call → Book
unfolding write
write_all b [] = b
write_all b (c ∷ cs) = write_all (write b c) cs

-- before the first call no K, no letter and no mark stands in the book
abbrev pub blank : Book
blank = started_book 0

abbrev pub book_of : List Call → Book
book_of cs = write_all blank cs
