-- The promises of the calls on lent parts of a state.
use Rattle.std.specs.Prelude.{◌≡◌, Result, Ok, Err, List, ℕ}
use Rattle.cells.specs.declared.Numbers.{Numbers}
use Rattle.promises.specs.declared.Draft.{Draft}
use Rattle.promises.specs.declared.Answered.{Answered}
use Rattle.promises.specs.declared.FeedAnswer.{FeedAnswer}
use Rattle.promises.specs.declared.refusal.Refusal.{Refusal}
use Rattle.promises.specs.Answers.{Reply}
use Rattle.promises.specs.Book.{Query}
use Rattle.promises.specs.State.{with_lifts, with_marks}
use Rattle.promises.specs.Promises.{FeedPromise, LoadPromise, MarkPromise, Reads}

abbrev pub answered_as : {A : Type 0} → A → Draft → Answered A
answered_as answer state = record { answer = answer; state = state }

-- Start and back give the state's numbers on lent parts: done, and the numbers as they are after it, which a refusal leaves

abbrev pub done : {A : Type 0} → Result A Refusal → Result Unit Refusal
done (Ok x) = Ok tt
done (Err refusal) = Err refusal

abbrev pub numbers_after : Numbers → Result Numbers Refusal → Numbers
numbers_after held (Ok after) = after
numbers_after held (Err refusal) = held

-- A feed is not lent the marks: the promise, whatever they are
abbrev pub FeedsOn : (before : (marks : List ℕ) → Draft) (pick : ℕ) (list : List ℕ) → FeedAnswer → (after : (marks : List ℕ) → Draft) (list' : List ℕ) → Type 0
FeedsOn before pick list answer after list' = (marks : List ℕ) → FeedPromise (before marks) pick list (answered_as answer (after marks)) list'

-- A load on the lent table: the promise, for every state of these numbers that has it; after is the table as it stands then
abbrev pub LoadsOn : Numbers → (before lifts : List ℕ) → Result Unit Refusal → (after : List ℕ) → Type 0
LoadsOn held before lifts answer after =
    (d : Draft) → d.numbers ≡ held → d.lifts ≡ before → LoadPromise d lifts (answered_as answer (with_lifts d after))

-- A mark on the lent marks, in the same way
abbrev pub MarksOn : Numbers → (before : List ℕ) (name : ℕ) → Result Unit Refusal → (after : List ℕ) → Type 0
MarksOn held before name answer after =
    (d : Draft) → d.numbers ≡ held → d.marks ≡ before → MarkPromise d name (answered_as answer (with_marks d after))

-- A query on lent parts: the promise, for every state of these numbers that has these parts
abbrev pub ReadsOn : Numbers → (Draft → Type 0) → Query → Reply → Type 0
ReadsOn held Has q r = (d : Draft) → d.numbers ≡ held → Has d → Reads d q r
