-- Runs: "a list of starts, feeds, splits and calls for the longest ending's centre, with any arguments, refused calls included"; "Loads join
-- the runs"; "Both mark calls join the runs"; "Calls that only read the state, as mask, radius, next shorter ending and record, may stand
-- between".
use Rattle.std.specs.Prelude.{List, [], ◌∷◌, map, ℕ}
use Rattle.promises.specs.declared.Draft.{Draft}
use Rattle.promises.specs.Answers.{Reply, reply, done_says, feed_says, Changed, Fed}
use Rattle.promises.specs.Book.{Query, Call, start, feed, load, mark, back, ask}
use Rattle.promises.specs.Promises.{StartPromise, FeedPromise, LoadPromise, MarkPromise, BackPromise, Reads}

-- a call that was made, and what came of it: its result, and its list as it was lent and as it stands afterwards
pub data Made : Type 0 where
  started : (K : ℕ) (r : Changed) → Made
  fed : (pick : ℕ) (before : List ℕ) (r : Fed) (after : List ℕ) → Made
  loaded : (lifts : List ℕ) (r : Changed) → Made
  marked : (name : ℕ) (r : Changed) → Made
  returned : (name : ℕ) (r : Changed) → Made
  asked : (q : Query) (r : Reply) → Made

-- its arguments
unfoldable pub call_of : Made → Call
call_of (started K r) = start K
call_of (fed pick before r after) = feed pick before
call_of (loaded lifts r) = load lifts
call_of (marked name r) = mark name
call_of (returned name r) = back name
call_of (asked q r) = ask q

abbrev pub calls : List Made → List Call
calls ms = map call_of ms

-- its answer, and its list afterwards
unfoldable pub reply_of : Made → Reply
reply_of (started K r) = reply (done_says r.answer) []
reply_of (fed pick before r after) = reply (feed_says r.answer) after
reply_of (loaded lifts r) = reply (done_says r.answer) []
reply_of (marked name r) = reply (done_says r.answer) []
reply_of (returned name r) = reply (done_says r.answer) []
reply_of (asked q r) = r

-- the promise of the call's contract, on the state that it is given
unfoldable pub Meets : Draft → Made → Type 0
Meets d (started K r) = StartPromise d K r
Meets d (fed pick before r after) = FeedPromise d pick before r after
Meets d (loaded lifts r) = LoadPromise d lifts r
Meets d (marked name r) = MarkPromise d name r
Meets d (returned name r) = BackPromise d name r
Meets d (asked q r) = Reads d q r

-- the state as the call returned or left it
unfoldable pub leaves : Draft → Made → Draft
leaves d (started K r) = r.state
leaves d (fed pick before r after) = r.state
leaves d (loaded lifts r) = r.state
leaves d (marked name r) = r.state
leaves d (returned name r) = r.state
leaves d (asked q r) = d

-- "Each later call is given the state as the one before it returned or left it": d is what the first was given
unfoldable pub Run : Draft → List Made → Type 0
unfolding Meets leaves
Run d [] = Unit
Run d (m ∷ ms) = Meets d m × Run (leaves d m) ms

-- the state after the last call
unfoldable pub last : Draft → List Made → Draft
unfolding leaves
last d [] = d
last d (m ∷ ms) = last (leaves d m) ms
