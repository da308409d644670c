-- Marks and going back (document 02, 2.7), as statements. Their proofs are in proofs/.
use Rattle.std.specs.Prelude.{◌≡◌, ◌↔◌, ◌≢◌, List, [], ◌∷◌, ◌++◌, ℕ, ◌≤◌, length, take}
use Rattle.std.proofs.Math.Option.{some}
use Rattle.layout.specs.Layout.{Letter}
use Rattle.promises.specs.declared.Draft.{Draft}
use Rattle.promises.specs.Answers.{gave, refused, Under, done_says, Changed}
use Rattle.promises.specs.Marks.{most_marks, mark_at, mark_length, how_many, drop_longer}
use Rattle.promises.specs.Book.{Book, Call, mark, back, write, book_of}
use Rattle.promises.specs.Listed.{Line, First, NoneMet, no_such_mark, fifth_name, listed}
use Rattle.promises.specs.State.{empty_under, with_picks, marks_of, with_mark, cut_to}
use Rattle.promises.specs.Promises.{MarkPromise, BackPromise}
use Rattle.promises.specs.Runs.{Made, marked, returned, calls}
use Rattle.promises.specs.Demands.{Accepted, OfEveryRun}

-- In every run: b is the book after it

-- "up to four marks", none beyond the draft
pub record MarksRight (b : Book) : Type 0 where
  pub four : how_many b.marks ≤ most_marks
  pub within : (name m : ℕ) → mark_at b.marks name ≡ some m → m ≤ length b.row

abbrev pub MarksHold : Type 0
MarksHold = OfEveryRun (λ d ms. MarksRight (book_of (calls ms)))

-- an accepted mark, b being the book before it: the name marks the draft's length, and every other name is as it was
pub record MarkRight (b : Book) (name : ℕ) : Type 0 where
  pub own : mark_at (write b (mark name)).marks name ≡ some (length b.row)
  pub others : (x : ℕ) → Letter x → x ≢ name → mark_at (write b (mark name)).marks x ≡ mark_at b.marks x

abbrev pub MarksSet : Type 0
MarksSet = OfEveryRun (λ d ms. (xs ys : List Made) (name : ℕ) (r : Changed) → ms ≡ xs ++ marked name r ∷ ys
    → Accepted (done_says r.answer) → MarkRight (book_of (calls xs)) name)

-- an accepted going back, b being the book before it: "restores picks, row words, gathered words and all else but marks and lifts to exactly
-- what feeding only those picks would have left, and drops marks of greater length"
pub record BackRight (b : Book) (name : ℕ) (after : Draft) : Type 0 where
  -- the name marks m picks
  pub m : ℕ
  pub marks : mark_at b.marks name ≡ some m
  pub within : m ≤ length b.row
  -- a mark stays exactly where it is no longer
  pub stay : (x y : ℕ) → (mark_at (drop_longer m b.marks) x ≡ some y) ↔ ((mark_at b.marks x ≡ some y) × (y ≤ m))
  -- every number and every entry of every array: the empty draft under the lifts in force, these picks fed one after another
  pub state : after ≡ with_picks (empty_under b.K b.lifts (drop_longer m b.marks)) (take m b.row)

abbrev pub BacksHold : Type 0
BacksHold = OfEveryRun (λ d ms. (xs ys : List Made) (name : ℕ) (r : Changed) → ms ≡ xs ++ returned name r ∷ ys
    → Accepted (done_says r.answer) → BackRight (book_of (calls xs)) name r.state)

-- On any state whatever: 7, 2, then 18 or 17 as far as the stored marks say; else the state that is named. More than four marks may be stored
-- there, and lengths above n; two marks of one name cannot be
pub record AnyMarks (d : Draft) (call : Call) (late : Line) (next : Draft) (r : Changed) : Type 0 where
  pub refuses : (x : ℕ) → (done_says r.answer ≡ refused x) ↔ First (listed d.numbers.n d.numbers.k call ++ late ∷ []) x
  pub keeps : (x : ℕ) → Under (done_says r.answer) x → r.state ≡ d
  pub accepts : NoneMet (listed d.numbers.n d.numbers.k call ++ late ∷ []) → (done_says r.answer ≡ gave []) × (r.state ≡ next)

abbrev pub AnyMarkHolds : Type 0
AnyMarkHolds = (d : Draft) (name : ℕ) (r : Changed) → MarkPromise d name r → AnyMarks d (mark name) (fifth_name (marks_of d) name) (with_mark d name) r

abbrev pub AnyBackHolds : Type 0
AnyBackHolds = (d : Draft) (name : ℕ) (r : Changed) → BackPromise d name r
    → AnyMarks d (back name) (no_such_mark (marks_of d) name) (cut_to d (mark_length (mark_at (marks_of d) name))) r
