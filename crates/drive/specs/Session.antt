-- What a host does: scripts one after another, each on the state that the one before it left. They are one run; and where the first call is an
-- accepted start, whatever the arrays held, all that `drive` writes, the state included, follows from the scripts and what was lent.
use Rattle.std.specs.Prelude.{◌≡◌, List, [], ◌∷◌, ◌++◌, ℕ, ◌/◌, ◌≤◌, length}
use Rattle.words.specs.Definitions.{most_sections}
use Rattle.promises.specs.declared.Draft.{Draft}
use Rattle.promises.specs.Answers.{Reply, filled}
use Rattle.promises.specs.Book.{Book, Call, start, blank, write_all, book_of}
use Rattle.promises.specs.State.{state_of_book}
use Rattle.promises.specs.Replies.{replies}
use Rattle.promises.specs.Runs.{Made, calls, Run, last}
use Rattle.promises.specs.Demands.{OfEveryRun}
use Rattle.drive.specs.Script.{Buffers, fills_lists, fills_bytes, list_from, asked}
use Rattle.drive.specs.Drives.{answer_size, encoded, Drives}

-- a script that was driven: what was lent to it, how many calls it made, and what was lent as it stands afterwards
pub record Driven : Type 0 where
  pub script : List ℕ
  pub left : Buffers
  pub answers : List ℕ
  pub count : ℕ
  pub lists' : List ℕ
  pub bytes' : List ℕ
  pub answers' : List ℕ

-- by `drive`, from the state d to the state e
abbrev pub DrivenFrom : (d : Draft) → Driven → (e : Draft) → Type 0
DrivenFrom d s e = Drives d s.script s.left s.answers s.count e s.lists' s.bytes' s.answers'

-- the calls that it asks for, and those of all scripts
abbrev pub asked_by : Driven → List Call
asked_by s = asked (length s.answers / answer_size) s.script s.left

unfoldable pub asked_by_all : List Driven → List Call
unfolding asked
asked_by_all [] = []
asked_by_all (s ∷ ss) = asked_by s ++ asked_by_all ss

-- scripts one after another from d to e, the calls that were made behind each other
pub data Session : (d : Draft) → List Driven → (e : Draft) → List Made → Type 0 where
  over : {d : Draft} → Session d [] d []
  again : {d e f : Draft} {s : Driven} {ss : List Driven} {ms : List Made} → (h : DrivenFrom d s e) → Session e ss f ms
      → Session d (s ∷ ss) f (h.made ++ ms)

-- they are one run of the calls asked for
pub record SessionRun (d : Draft) (ss : List Driven) (e : Draft) (ms : List Made) : Type 0 where
  pub run : Run d ms
  pub asks : calls ms ≡ asked_by_all ss
  pub state : e ≡ last d ms

abbrev pub SessionRuns : Type 0
SessionRuns = (d e : Draft) (ss : List Driven) (ms : List Made) → Session d ss e ms → SessionRun d ss e ms

-- The first call is a start, K from 1 to 8
pub record Opens (cs : List Call) : Type 0 where
  pub K : ℕ
  pub least : 1 ≤ K
  pub most : K ≤ most_sections
  pub rest : List Call
  pub is : cs ≡ start K ∷ rest

-- so what is proved of every run that opens with an accepted start is proved of every session that does
abbrev pub OfEverySession : Type 1
OfEverySession = (P : Draft → List Made → Type 0) → OfEveryRun P
    → (d e : Draft) (ss : List Driven) (ms : List Made) → Session d ss e ms → Opens (asked_by_all ss) → P d ms

-- What is written

-- of each call and its reply, one behind the other
unfoldable pub together : (Call → Reply → List ℕ) → List Call → List Reply → List ℕ
together f [] rs = []
together f (c ∷ cs) [] = []
together f (c ∷ cs) (r ∷ rs) = f c r ++ together f cs rs

-- by one script, b being the plain book before it: what its calls reply is read from the book
pub record Outcome (b : Book) (s : Driven) : Type 0 where
  pub counts : s.count ≡ length (asked_by s)
  pub entries : s.lists' ≡ filled (together (λ c r. list_from fills_lists c r.list) (asked_by s) (replies b (asked_by s))) s.left.lists
  pub output : s.bytes' ≡ filled (together (λ c r. list_from fills_bytes c r.list) (asked_by s) (replies b (asked_by s))) s.left.bytes
  pub told : s.answers' ≡ filled (together (λ c r. encoded r.said) (asked_by s) (replies b (asked_by s))) s.answers

-- by each of them, the book being written between
unfoldable pub Outcomes : Book → List Driven → Type 0
unfolding asked write_all
Outcomes b [] = Unit
Outcomes b (s ∷ ss) = Outcome b s × Outcomes (write_all b (asked_by s)) ss

pub record SessionRight (ss : List Driven) (e : Draft) : Type 0 where
  pub outcomes : Outcomes blank ss
  pub state : e ≡ state_of_book (book_of (asked_by_all ss))

abbrev pub SessionHolds : Type 0
SessionHolds = (d e : Draft) (ss : List Driven) (ms : List Made) → Session d ss e ms → Opens (asked_by_all ss) → SessionRight ss e
