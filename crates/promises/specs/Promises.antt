-- The promise of each public call, as its contract cites it. `meaning`: on a state that holds what stands in the book, the reply
-- is the one that the book gives. `computes`: on any state whatever, the refusals in their order, and else what is read from the
-- stored arrays.
use Rattle.std.specs.Prelude.{◌≡◌, ◌≢◌, Result, List, [], ◌∷◌, ℕ, ◌+◌, ◌/◌, ◌%◌, ◌≤◌, length, drop}
use Rattle.std.proofs.Math.Option.{Option}
use Rattle.words.specs.Definitions.{most_visits, word}
use Rattle.words.specs.Computed.{NextShorter}
use Rattle.models.specs.Core.{After, append}
use Rattle.models.specs.Stores.{at}
use Rattle.models.specs.Iterator.{longest_of, radius_of}
use Rattle.models.specs.Answers.{next_of}
use Rattle.models.specs.Splitting.{split_by}
use Rattle.promises.specs.declared.Draft.{Draft}
use Rattle.promises.specs.declared.refusal.Refusal.{Refusal}
use Rattle.promises.specs.Answers.{Said, gave, refused, Under, Reply, reply, done_says, number_says, feed_says, Changed, Fed, found_numbers}
use Rattle.promises.specs.Refusals.{start_refusal, feed_refusal, load_refusal, show_refusal}
use Rattle.promises.specs.Lifts.{lift_in}
use Rattle.promises.specs.Marks.{mark_at, mark_length}
use Rattle.promises.specs.Book.{Book, write, Call, Query, start, feed, load, mark, back, ask, split, longest, mask, radius, next, fold, lift, lent}
use Rattle.layout.specs.declared.Found.{Found}
use Rattle.layout.specs.Record.{record_of}
use Rattle.layout.specs.Yield.{yield_at}
use Rattle.promises.specs.Replies.{unless_said, unless, or_no_split, or_no_ending, or_too_long, or_no_mark, or_fifth_name, gives, split_reply, record_reply, refusal_of, refusal_to, reply_to, shown, shown_behind, unfold_reply}
use Rattle.promises.specs.State.{fresh, arrays_of, with_lifts, code_in, with_pick, marks_of, with_mark, cut_to}
use Rattle.promises.specs.Holds.{Holds}

-- a row word's mask, in eight bits
abbrev pub mask_byte : ℕ → ℕ
mask_byte row = row / 2 % 256

-- a call that may write, on a state that holds what stands in the book
pub record Writes (b : Book) (call : Call) (r : Reply) (state : Draft) : Type 0 where
  pub replies : r ≡ reply_to b call
  -- "which takes a pick and stores nothing": the state then holds what the book then has
  pub holds : Holds state (write b call)

-- Start, on whatever was stored
pub record StartPromise (d : Draft) (K : ℕ) (r : Changed) : Type 0 where
  pub says : (b : Book) → reply (done_says r.answer) [] ≡ reply_to b (start K)
  pub refuses : start_refusal K ≢ 0 → r.state ≡ d
  -- the whole state is written
  pub begins : start_refusal K ≡ 0 → r.state ≡ fresh K

-- Feed

-- z is what the core computes; the mask and the lengths visited are its
pub record FeedComputes (d : Draft) (pick : ℕ) (before : List ℕ) (z : After) (said : Said) (state : Draft) (after : List ℕ) : Type 0 where
  pub says : said ≡ gave (mask_byte z.row ∷ z.count ∷ [])
  pub list : after ≡ z.visits
  pub few : z.count ≤ most_visits
  pub size : length after ≡ length before
  pub later : drop z.count after ≡ drop z.count before
  -- whatever the visit list
  pub stores : state ≡ with_pick d pick

pub record FeedPromise (d : Draft) (pick : ℕ) (before : List ℕ) (r : Fed) (after : List ℕ) : Type 0 where
  pub meaning : (b : Book) → Holds d b → Writes b (feed pick before) (reply (feed_says r.answer) after) r.state
  pub refuses : feed_refusal d.numbers.n d.numbers.k pick (length before) ≢ 0
      → (feed_says r.answer ≡ refused (feed_refusal d.numbers.n d.numbers.k pick (length before))) × (r.state ≡ d) × (after ≡ before)
  pub computes : feed_refusal d.numbers.n d.numbers.k pick (length before) ≡ 0
      → FeedComputes d pick before (append d.numbers.k d.numbers.n (code_in d pick) (arrays_of d) before) (feed_says r.answer) r.state after

-- Load

pub record LoadPromise (d : Draft) (lifts : List ℕ) (r : Changed) : Type 0 where
  pub meaning : (b : Book) → Holds d b → Writes b (load lifts) (reply (done_says r.answer) []) r.state
  -- "A refused table leaves the former in force"
  pub refuses : load_refusal d.numbers.n d.numbers.k lifts ≢ 0
      → (done_says r.answer ≡ refusal_to (load lifts) (load_refusal d.numbers.n d.numbers.k lifts)) × (r.state ≡ d)
  pub computes : load_refusal d.numbers.n d.numbers.k lifts ≡ 0 → (done_says r.answer ≡ gave []) × (r.state ≡ with_lifts d lifts)

-- Mark and back: found is what the stored marks say, next the state after an accepted call
pub record Marking (d : Draft) (call : Call) (found : Said) (next : Draft) (r : Changed) : Type 0 where
  pub meaning : (b : Book) → Holds d b → Writes b call (reply (done_says r.answer) []) r.state
  pub computes : reply (done_says r.answer) [] ≡ unless (refusal_of d.numbers.n d.numbers.k call) [] (reply found [])
  -- whatever the number
  pub refuses : (number : ℕ) → Under (done_says r.answer) number → r.state ≡ d
  pub stores : done_says r.answer ≡ gave [] → r.state ≡ next

abbrev pub MarkPromise : (d : Draft) (name : ℕ) (r : Changed) → Type 0
MarkPromise d name r = Marking d (mark name) (or_fifth_name (marks_of d) name) (with_mark d name) r

-- of any state: an equation of states
abbrev pub BackPromise : (d : Draft) (name : ℕ) (r : Changed) → Type 0
BackPromise d name r = Marking d (back name) (or_no_mark (marks_of d) name) (cut_to d (mark_length (mark_at (marks_of d) name))) r

-- The calls that only read

-- the next shorter ending by the stored radii and links
abbrev pub next_held : Draft → (c : ℕ) → Option NextShorter
next_held d c = next_of d.centres.radius d.centres.next d.numbers.n (longest_of d.numbers.n d.numbers.longest.0) c

-- the split by the stored row words and radii
abbrev pub split_held : Draft → (k i : ℕ) → Option (List ℕ)
split_held d k i = split_by d.places.rows d.centres.radius d.numbers.n (longest_of d.numbers.n d.numbers.longest.0) k i

-- what is found in the stored arrays, in reply to a query that passes the tests
unfoldable pub found_in : Draft → Query → Reply
unfolding or_no_split or_too_long record_of
found_in d (split i k list) = split_reply (split_held d k i) list
found_in d longest = gives (longest_of d.numbers.n d.numbers.longest.0 ∷ [])
found_in d (mask i) = gives (mask_byte (at d.places.rows i) ∷ [])
found_in d (radius c) = gives (radius_of d.centres.radius d.numbers.n (longest_of d.numbers.n d.numbers.longest.0) c ∷ [])
found_in d (next c) = reply (or_no_ending (next_held d c)) []
found_in d (fold i k output) = record_reply (word d.letters) i (split_held d k i) output
found_in d (lift letter) = gives (lift_in d.lifts letter ∷ [])

unfoldable pub computed_to : Draft → Query → Reply
unfolding unless_said refusal_of lent found_in
computed_to d q = unless (refusal_of d.numbers.n d.numbers.k (ask q)) (lent (ask q)) (found_in d q)

-- one promise for all of them
pub record Reads (d : Draft) (q : Query) (r : Reply) : Type 0 where
  pub meaning : (b : Book) → Holds d b → r ≡ reply_to b (ask q)
  pub computes : r ≡ computed_to d q

-- The calls that are given no state

-- the letters of the part
abbrev pub ShowPromise : (letters ends : List ℕ) (s : ℕ) (part : List ℕ) → Type 0
ShowPromise letters ends s part = part ≡ shown letters ends s

-- and where it stands, "that part of the lent letters itself": of an address the memory block and the byte in it; lent is the letters' own
abbrev pub ShowPlace : (letters ends : List ℕ) (s : ℕ) (lent part : ℕ × ℕ) → Type 0
ShowPlace letters ends s lent part = (part.0 ≡ lent.0) × (part.1 ≡ lent.1 + shown_behind letters ends s)

-- the companion: "0 for an accepted show"
abbrev pub ShowNumberPromise : (letters ends : List ℕ) (s number : ℕ) → Type 0
ShowNumberPromise letters ends s number = number ≡ show_refusal letters ends s

-- the record's bytes; the list before and after
abbrev pub UnfoldPromise : (bytes before : List ℕ) (r : Result ℕ Refusal) (after : List ℕ) → Type 0
UnfoldPromise bytes before r after = reply (number_says r) after ≡ unfold_reply bytes before

-- one step of a reader: what it yields at a place, and the place after it
abbrev pub SectionPromise : (bytes : List ℕ) (at : ℕ) (r : Found) → Type 0
SectionPromise bytes at r = found_numbers r ≡ found_numbers (yield_at bytes at)
