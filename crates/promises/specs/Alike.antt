-- Of a table only counts which letters lift alike (document 02, 2.5: "two picks are the same when their lifts are equal"), as statements.
-- Their proofs are in proofs/.
use Rattle.std.specs.Prelude.{◌≡◌, ◌↔◌, ◌≢◌, List, ◌∷◌, ◌++◌, ℕ}
use Rattle.text.specs.Definitions.{bytes}
use Rattle.layout.specs.Layout.{Every, Letter}
use Rattle.promises.specs.Lifts.{lift_in, lifted_by, Distinct}
use Rattle.promises.specs.Book.{Book, book, Call, ask, lift, book_of}
use Rattle.promises.specs.Replies.{reply_to}
use Rattle.promises.specs.Runs.{Made, call_of, calls, reply_of}
use Rattle.promises.specs.Demands.{OfEveryRun}

-- under both tables the same letters lift alike
abbrev pub Alike : (lifts other : List ℕ) → Type 0
Alike lifts other = (x y : ℕ) → Letter x → Letter y → (lift_in lifts x ≡ lift_in lifts y) ↔ (lift_in other x ≡ lift_in other y)

-- the book with another table
abbrev pub with_table : Book → (lifts : List ℕ) → Book
with_table b lifts = book b.K lifts b.row b.marks

-- it is not a lift that is asked for
abbrev pub NoLift : Call → Type 0
NoLift call = (letter : ℕ) → call ≢ ask (lift letter)

-- a row of letters: every call but for a lift has the same reply under two such tables
abbrev pub AlikeHolds : Type 0
AlikeHolds = (b : Book) (other : List ℕ) (call : Call) → Every Letter b.row → Alike b.lifts other → NoLift call
    → reply_to b call ≡ reply_to (with_table b other) call

-- The letters as a table: a row of letters is read as itself

unfoldable pub alphabet : List ℕ
unfolding bytes
alphabet = bytes "ABCDEFGHIJKLMNOPQRSTUVWXYZ"

abbrev pub ReadAsLetters : Type 0
ReadAsLetters = (row : List ℕ) → Every Letter row → lifted_by alphabet row ≡ row

-- so where no two letters lift alike, as in the fixed table (fixed_distinct in proofs/Lifts.antt), nothing changes for any row of letters: every call of a
-- run is answered as document 01 has it, palindromes being read by letters
abbrev pub ByLetters : List Made → Type 0
ByLetters ms = (xs ys : List Made) (m : Made) → ms ≡ xs ++ m ∷ ys → Distinct (book_of (calls xs)).lifts → NoLift (call_of m)
    → reply_of m ≡ reply_to (with_table (book_of (calls xs)) alphabet) (call_of m)

abbrev pub ByLettersHolds : Type 0
ByLettersHolds = OfEveryRun (λ d ms. ByLetters ms)
