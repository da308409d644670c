-- One pick: the line that is filled, and the state afterwards; and the picks of an input, one after another.
use Rattle.std.specs.Prelude.{◌≡◌, Bool, true, false, not, ◌≢◌, Option, List, [], ◌∷◌, ◌++◌, ℕ, ◌+◌, ◌-◌, ◌*◌, is_some, take}
use Rattle.std.specs.ControlFlow.{break_value}
use Rattle.std.specs.Io.KnownBytes.{Consumes, Appends}
use Rattle.std.specs.declared.ops.ControlFlow.{ControlFlow}
use Rattle.std.specs.declared.ops.ControlFlow.TheVariants.{Continue, Break}
use Rattle.text.specs.Definitions.{line_end}
use Rattle.promises.specs.declared.Draft.{Draft}
use Rattle.promises.specs.Answers.{Said, gave, refused, refused_at, feed_says}
use Rattle.promises.specs.Book.{Book, feed, write}
use Rattle.promises.specs.Holds.{Holds}
use Rattle.promises.specs.State.{with_marks}
use Rattle.calls.specs.declared.feed.Step.{Step}
use Rattle.draft.specs.Output.{line_of, line_for, visit_list, goes_on}
use Rattle.draft.specs.Putting.{IsPrefixLen}

-- The line of an answer

-- the length of the ending of prefix n with this centre
abbrev pub ending_length : (n centre : ℕ) → ℕ
ending_length n centre = 2 * n + 1 - centre

-- whether the run is over
abbrev pub is_refused : Said → Bool
is_refused (gave values) = false
is_refused (refused number) = true
is_refused (refused_at number place) = true

-- a line that was filled: the count of its bytes, and whether it is the last
abbrev pub byte_count : ControlFlow ℕ ℕ → ℕ
byte_count (Continue count) = count
byte_count (Break count) = count

abbrev pub is_last : ControlFlow ℕ ℕ → Bool
is_last line = is_some (break_value line)

-- n picks were there; line is what stands in its room afterwards
pub record Tells (n : ℕ) (s : Step) (t : ControlFlow ℕ ℕ) (line : List ℕ) : Type 0 where
  pub over : is_last t ≡ is_refused (feed_says s.answer)
  pub counts : IsPrefixLen (byte_count t) line
  pub bytes : take (byte_count t) line ≡ line_of n s.numbers.n (ending_length s.numbers.n s.numbers.longest.0) (feed_says s.answer)

-- One pick: d and e are the states before and after it

pub record Filled (b : Book) (pick : ℕ) (over : Bool) (e : Draft) (line : List ℕ) : Type 0 where
  -- document 01's line of what the book replies
  pub is : line ≡ line_for b pick
  pub goes : over ≡ not (goes_on b pick)
  -- the state holds the book with the pick, where it takes it
  pub holds : Holds e (write b (feed pick visit_list))

pub record Fills (d : Draft) (pick : ℕ) (over : Bool) (e : Draft) (line : List ℕ) : Type 0 where
  pub meaning : (b : Book) → Holds d b → Filled b pick over e line
  -- on any state: one pick more, where the run goes on
  pub more : over ≡ false → e.numbers.n ≡ d.numbers.n + 1

-- whatever the marks: a feed is not lent them
abbrev pub FillsOn : (before : Draft) (pick : ℕ) (over : Bool) (after : Draft) (line : List ℕ) → Type 0
FillsOn before pick over after line = (marks : List ℕ) → Fills (with_marks before marks) pick over (with_marks after marks) line

-- and the line was written, where the bytes before and after it are known
pub record Written (before : Draft) (pick : ℕ) (over : Bool) (after : Draft) (written written' : Option (List ℕ)) : Type 0 where
  pub line : List ℕ
  pub fills : FillsOn before pick over after line
  pub appended : Appends written written' line

-- the pick was fed, though nothing is known of what was written
pub record FedWith (before : Draft) (pick : ℕ) (after : Draft) : Type 0 where
  pub over : Bool
  pub line : List ℕ
  pub fills : FillsOn before pick over after line

-- The picks of an input, taken one after another from the state d; lines is what was written, one line behind the other

pub data Takes : Draft → (input lines : List ℕ) → Type 0 where
  nothing : {d : Draft} → Takes d [] []
  closed : {d : Draft} {input : List ℕ} → Takes d (line_end ∷ input) []
  last : {d e : Draft} {pick : ℕ} {input line : List ℕ} → pick ≢ line_end → Fills d pick true e line → Takes d (pick ∷ input) line
  then : {d e : Draft} {pick : ℕ} {input line lines : List ℕ} → pick ≢ line_end → Fills d pick false e line → Takes e input lines
      → Takes d (pick ∷ input) (line ++ lines)

-- the same of an input and an output whose bytes are known: left are those to be read, written those that are written
pub record Taken (d : Draft) (left left' written written' : Option (List ℕ)) : Type 0 where
  pub read : List ℕ
  pub lines : List ℕ
  pub takes : Takes d read lines
  pub consumed : Consumes left left' read
  pub appended : Appends written written' lines

abbrev pub TakenOn : (before : Draft) (left left' written written' : Option (List ℕ)) → Type 0
TakenOn before left left' written written' = (marks : List ℕ) → Taken (with_marks before marks) left left' written written'
