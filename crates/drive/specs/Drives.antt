-- What `drive` does: the contract that its declaration cites.
use Rattle.std.specs.Prelude.{◌≡◌, List, [], ◌∷◌, ◌++◌, ℕ, ◌/◌, length, get_or}
use Rattle.cells.specs.declared.Centres.{Centres}
use Rattle.cells.specs.declared.Places.{Places}
use Rattle.cells.specs.declared.Numbers.{Numbers}
use Rattle.promises.specs.declared.Draft.{Draft}
use Rattle.promises.specs.Answers.{Said, gave, refused, refused_at, filled}
use Rattle.promises.specs.State.{draft_in}
use Rattle.promises.specs.Runs.{Made, call_of, calls, reply_of, Run, last}
use Rattle.drive.specs.Script.{Buffers, fills_lists, fills_bytes, list_from, asked}

-- n, K and the centre of the longest ending, each as it is stored
abbrev pub held_in : (numbers : List ℕ) → Numbers
held_in numbers = record { n = get_or numbers 0 0; k = get_or numbers 1 0; longest = record { 0 = get_or numbers 2 0 } }

-- The state that the numbers, the letters, the codes, the lifts, the marks and the arrays by centre and by place are
abbrev pub state_of : (numbers letters codes lifts marks : List ℕ) → Centres → Places → Draft
state_of numbers letters codes lifts marks centres places = draft_in (held_in numbers) letters codes lifts marks centres places

-- An answer in four numbers: 0 and the values given, 1 and the number under which it refuses, or 2, that number and its place; 0 where
-- there is none
abbrev pub answer_size : ℕ
answer_size = 4

abbrev pub encoded : Said → List ℕ
encoded (gave values) = 0 ∷ get_or values 0 0 ∷ get_or values 1 0 ∷ get_or values 2 0 ∷ []
encoded (refused number) = 1 ∷ number ∷ 0 ∷ 0 ∷ []
encoded (refused_at number place) = 2 ∷ number ∷ place ∷ 0 ∷ []

-- what a call left of each of the lent lists
abbrev pub answers_of : Made → List ℕ
answers_of m = encoded (reply_of m).said

abbrev pub entries_of : Made → List ℕ
entries_of m = list_from fills_lists (call_of m) (reply_of m).list

abbrev pub bytes_of : Made → List ℕ
bytes_of m = list_from fills_bytes (call_of m) (reply_of m).list

-- one behind the other
unfoldable pub joined : (Made → List ℕ) → List Made → List ℕ
joined f [] = []
joined f (m ∷ ms) = f m ++ joined f ms

-- d is the state at entry, e at exit; left and answers are as at entry, lists', bytes' and answers' as at exit
pub record Drives (d : Draft) (script : List ℕ) (left : Buffers) (answers : List ℕ) (count : ℕ) (e : Draft) (lists' bytes' answers' : List ℕ) : Type 0 where
  -- the calls made: a run from the state at entry, so what Demands.antt says of every run is said of them
  pub made : List Made
  pub run : Run d made
  pub asks : calls made ≡ asked (length answers / answer_size) script left
  pub counts : count ≡ length made
  pub state : e ≡ last d made
  -- what they left stands at the front of each lent list; the rest of the list is as it was
  pub entries : lists' ≡ filled (joined entries_of made) left.lists
  pub output : bytes' ≡ filled (joined bytes_of made) left.bytes
  pub told : answers' ≡ filled (joined answers_of made) answers
