-- Worked examples of marks: A marks no pick, B, C and D mark A, AB and ABA.
use mathlib.Core.Path.{◌≡◌, refl}
use mathlib.Core.List.{List, [], ◌∷◌, ◌++◌}
use mathlib.Core.Option.{some, none}
use Prim.Native.Nat.{ℕ}
use lib.ListN.{replicate}
use Rattle.words.specs.Definitions.{most_visits}
use Rattle.text.specs.Definitions.{bytes}
use Rattle.promises.specs.Answers.{gave, refused, reply}
use Rattle.promises.specs.Marks.{mark_at}
use Rattle.promises.specs.Book.{Call, start, feed, load, mark, back, write_all, book_of}
use Rattle.promises.specs.Replies.{reply_to}

abbrev pick : ℕ → Call
pick letter = feed letter (replicate most_visits 0)

abbrev pub four : List Call
four = start 8 ∷ mark 65 ∷ pick 65 ∷ mark 66 ∷ pick 66 ∷ mark 67 ∷ pick 65 ∷ mark 68 ∷ []

-- E is a fifth name; B is moved, and is none
pub fifth_name_lem : reply_to (book_of four) (mark 69) ≡ reply (refused 18) []
unfolding reply_to write_all
fifth_name_lem = refl

pub name_again : reply_to (book_of four) (mark 66) ≡ reply (gave []) []
unfolding reply_to write_all
name_again = refl

pub moved : mark_at (book_of (four ++ mark 66 ∷ [])).marks 66 ≡ some 3
unfolding write_all
moved = refl

pub no_such_mark_lem : reply_to (book_of four) (back 69) ≡ reply (refused 17) []
unfolding reply_to write_all
no_such_mark_lem = refl

-- byte 64 and byte 91 are no names
pub below_a : reply_to (book_of four) (mark 64) ≡ reply (refused 2) []
unfolding reply_to write_all
below_a = refl

pub above_z : reply_to (book_of four) (back 91) ≡ reply (refused 2) []
unfolding reply_to write_all
above_z = refl

-- Back to B: one pick is kept; C and D are dropped, B and the shorter A stay, and there is room for E, of the same length as B

abbrev pub again : List Call
again = four ++ back 66 ∷ mark 69 ∷ pick 67 ∷ back 69 ∷ []

pub kept_row : (book_of again).row ≡ bytes "A"
unfolding write_all bytes
kept_row = refl

pub kept_marks : (mark_at (book_of again).marks 65 ≡ some 0) × (mark_at (book_of again).marks 66 ≡ some 1) × (mark_at (book_of again).marks 69 ≡ some 1)
unfolding write_all
kept_marks = (refl, refl, refl)

pub dropped_marks : (mark_at (book_of again).marks 67 ≡ none) × (mark_at (book_of again).marks 68 ≡ none)
unfolding write_all
dropped_marks = (refl, refl)

-- a load after going back to no pick is taken, and marks stay; a start drops them
pub load_keeps : mark_at (book_of (again ++ back 65 ∷ load (replicate 26 255) ∷ [])).marks 65 ≡ some 0
unfolding write_all
load_keeps = refl

pub start_drops : reply_to (book_of (again ++ start 8 ∷ [])) (back 65) ≡ reply (refused 17) []
unfolding reply_to write_all
start_drops = refl
