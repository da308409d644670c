-- Demands 1 to 3 and the transcript, as statements. Their proofs are in proofs/.
use Rattle.std.specs.Prelude.{◌≡◌, true, ◌↔◌, ◌≢◌, ℕ, ◌+◌, ◌-◌, ◌*◌, ◌^◌, ◌≤◌, length, take, drop, get_or}
use mathlib.Core.List.{List, [], ◌∷◌, ◌++◌, map, Memᴰ}
use Rattle.words.specs.Definitions.{most_sections, From, word, centre, length_at, LongestEnding, next_leading, Follows, Visits, Split, Named, turn_count, Rising, RowWord, GatheredWord}
use Rattle.layout.specs.Record.{record_of}
use Rattle.models.specs.Stores.{at}
use Rattle.promises.specs.declared.Draft.{Draft}
use Rattle.promises.specs.Answers.{Said, gave, refused, refused_at, Under, Reply, reply, filled, done_says, feed_says, Changed, Fed}
use Rattle.promises.specs.Lifts.{lift_in, FirstZero}
use Rattle.promises.specs.Book.{Book, Call, load, ask, split, longest, mask, next, fold, lift, blank, lent, lifted, fed_lifted, start_taken, feed_taken, load_taken, mark_taken, back_taken, book_of}
use Rattle.promises.specs.Listed.{Line, First, NoneMet, listed, sought, lines, show_lines}
use Rattle.promises.specs.Says.{Yes, Says, PartOf}
use Rattle.promises.specs.State.{state_of_book}
use Rattle.promises.specs.Promises.{Reads, ShowPromise, ShowPlace, ShowNumberPromise}
use Rattle.promises.specs.Replies.{replies}
use Rattle.promises.specs.Runs.{Made, started, fed, loaded, marked, returned, call_of, calls, reply_of, Meets, leaves, Run, last}

-- A run that opens with an accepted start on the stored state d
pub record Opened (d : Draft) (K : ℕ) (r : Changed) (ms : List Made) : Type 0 where
  pub least : 1 ≤ K
  pub most : K ≤ most_sections
  pub run : Run d (started K r ∷ ms)

-- the book's row, and its K, after these calls
abbrev pub row_of : List Made → List ℕ
row_of ms = (book_of (calls ms)).row

-- the row read by the lifts that the book holds then
abbrev pub lifted_of : List Made → List ℕ
lifted_of ms = lifted (book_of (calls ms))

abbrev pub sections_of : List Made → ℕ
sections_of ms = (book_of (calls ms)).K

-- not refused
abbrev pub Accepted : Said → Type 0
Accepted said = (number : ℕ) → Under said number → ⊥

-- this feed stands in the list, after xs
pub record FeedAmong (ms xs : List Made) (pick : ℕ) (before : List ℕ) (r : Fed) (after : List ℕ) : Type 0 where
  pub rest : List Made
  pub is : ms ≡ xs ++ fed pick before r after ∷ rest

-- Demand 1

-- the numbers of the lines that hang on the picks and the marks: 9 of a split, 10 of the next shorter ending, 9 and 5 of a record, 18 of
-- a mark, 17 of going back
abbrev pub sought_numbers : Call → List ℕ
sought_numbers call = map (λ l. l.number) (sought blank call)

-- "a place coming beside the number where one is named": of the numbers of a call on a state 15 has one, that of the first lift of 0
pub data PlaceOf : Call → (number place : ℕ) → Type 0 where
  of_zero : {lifts : List ℕ} {place : ℕ} → FirstZero lifts place → PlaceOf (load lifts) 15 place

-- for one call, on any state whatever
pub record Demand1 (d : Draft) (m : Made) : Type 0 where
  -- of the lines that need no picks and no marks, 1 to 4, 7, 8 and 13 to 16, the first that the call meets gives the number: "there 1 to 4 and 8 still
  -- hold", and document 02's numbers for bad input "hold as 1 to 4 do"
  pub refuses : (number : ℕ) → First (listed d.numbers.n d.numbers.k (call_of m)) number → Under (reply_of m).said number
  -- with the place that belongs to it, and with none where none does
  pub places : (number place : ℕ) → ((reply_of m).said ≡ refused_at number place)
      ↔ (First (listed d.numbers.n d.numbers.k (call_of m)) number × PlaceOf (call_of m) number place)
  -- "Each number is given only under its line": a call that meets none of these can be refused only by what is found
  pub otherwise : NoneMet (listed d.numbers.n d.numbers.k (call_of m)) → (number : ℕ) → Under (reply_of m).said number
      → Memᴰ number (sought_numbers (call_of m))
  -- "A refusal returns its number only; state and lent buffers keep every byte", whatever the number
  pub keeps : (number : ℕ) → Under (reply_of m).said number → ((reply_of m).list ≡ lent (call_of m)) × (leaves d m ≡ d)

-- the lines that need no picks and no marks are not met
abbrev pub NoneListed : Book → Call → Type 0
NoneListed b call = NoneMet (listed (length b.row) b.K call)

-- each of these lines by itself: refused under its number exactly where none of the lines before them all is met, and it is
unfoldable pub Late : Said → (NoneBefore : Type 0) → List Line → Type 0
Late said NoneBefore [] = Unit
Late said NoneBefore (l ∷ ls) = ((said ≡ refused l.number) ↔ (NoneBefore × l.Met)) × Late said NoneBefore ls

-- for a call of a run, b being the book before it
pub record Answered (b : Book) (call : Call) (r : Reply) : Type 0 where
  -- a call is refused under a number exactly where that is the first line that it meets, 9, 10, 5, 17 and 18 among them
  pub refuses : (number : ℕ) → Under r.said number ↔ First (lines b call) number
  pub places : (number place : ℕ) → (r.said ≡ refused_at number place) ↔ (First (lines b call) number × PlaceOf call number place)
  pub keeps : (number : ℕ) → Under r.said number → r.list ≡ lent call
  -- "Every other call is accepted", and says what document 01 says
  pub accepts : Accepted r.said ↔ NoneMet (lines b call)
  pub says : NoneMet (lines b call) → Says b call r
  -- 9 of a split, 10 of the next shorter ending, 9 and 5 of a record, 18 of a mark, 17 of going back
  pub late : Late r.said (NoneListed b call) (sought b call)

-- each call of the run: the calls after it may be none
abbrev pub Demand1Run : List Made → Type 0
Demand1Run ms = (xs ys : List Made) (m : Made) → ms ≡ xs ++ m ∷ ys → Answered (book_of (calls xs)) (call_of m) (reply_of m)

-- the next shorter ending after the one at c, whatever is stored, n as the count of picks: three values; "Length less period is always the
-- length at the centre it gives"
pub record NextRight (n c : ℕ) (said : Said) : Type 0 where
  pub to : ℕ
  pub len : ℕ
  pub p : ℕ
  pub says : said ≡ gave (to ∷ len ∷ p ∷ [])
  pub own : len ≡ length_at n c
  pub period : From 1 len p
  pub less : len - p ≡ length_at n to
  pub within : From (c + 1) (2 * n + 1) to

-- a split of prefix i into k, whatever is stored: k ends that rise from above 0 to i, and their turn count
pub record EndsRight (i k : ℕ) (before : List ℕ) (r : Reply) : Type 0 where
  pub ends : List ℕ
  pub count : length ends ≡ k
  pub rising : Rising i 0 ends
  pub is : r ≡ reply (gave (turn_count ends ∷ [])) (filled ends before)

-- a record of prefix i in k sections, whatever is stored: that of the stored letters, w, in k sections whose ends rise from above 0 to i
pub record RecordRight (w : ℕ → ℕ) (i k : ℕ) (before : List ℕ) (r : Reply) : Type 0 where
  pub ends : List ℕ
  pub count : length ends ≡ k
  pub rising : Rising i 0 ends
  pub fits : length (record_of w i ends) ≤ length before
  pub is : r ≡ reply (gave (length (record_of w i ends) ∷ [])) (filled (record_of w i ends) before)

-- the longest ending's centre, whatever is stored: a centre from 1 to 2n+1
pub record LongestRight (n : ℕ) (said : Said) : Type 0 where
  pub c : ℕ
  pub says : said ≡ gave (c ∷ [])
  pub within : From 1 (2 * n + 1) c

-- Of a mask and of a radius the documents fix nothing more there: the mask is that of the stored row word; the radius is the one that is
-- stored at the centre or, behind the longest ending's centre, at its mirror image (`found_in`)

-- show and its companion, on one input: 4, then 6, else the part; lent and at are the addresses of the letters and of the part
pub record ShowRight (letters ends : List ℕ) (s : ℕ) (lent at : ℕ × ℕ) (part : List ℕ) (number : ℕ) : Type 0 where
  pub refuses : (x : ℕ) → x ≢ 0 → (number ≡ x) ↔ First (show_lines letters ends s) x
  -- "A refused show hands back an empty part"
  pub empty : number ≢ 0 → part ≡ []
  -- "0 for an accepted show"
  pub accepts : (number ≡ 0) ↔ NoneMet (show_lines letters ends s)
  pub gives : NoneMet (show_lines letters ends s) → PartOf letters ends s part
  -- it stands among the lent letters, behind those of the sections before it
  pub place : NoneMet (show_lines letters ends s) → (at.0 ≡ lent.0) × (at.1 ≡ lent.1 + get_or (0 ∷ ends) (s - 1) 0)

-- lift, whatever is stored: 7, then 2, else the lift that is stored
pub record LiftRight (d : Draft) (letter : ℕ) (said : Said) : Type 0 where
  pub refuses : (x : ℕ) → (said ≡ refused x) ↔ First (listed d.numbers.n d.numbers.k (ask (lift letter))) x
  pub gives : NoneMet (listed d.numbers.n d.numbers.k (ask (lift letter))) → said ≡ gave (lift_in d.lifts letter ∷ [])

-- Demand 2

pub record Demand2 (d : Draft) (ms : List Made) : Type 0 where
  -- for each prefix
  pub prefixes : (i : ℕ) (r : Reply) → i ≤ length (row_of ms) → Reads (last d ms) (mask i) r
      → (m : ℕ) × (r.said ≡ gave (m ∷ [])) × Yes (sections_of ms) (lifted_of ms) i m
  -- while a designer keys picks: after each pick
  pub feeds : (xs : List Made) (pick : ℕ) (before : List ℕ) (r : Fed) (after : List ℕ) → FeedAmong ms xs pick before r after
      → Accepted (feed_says r.answer)
      → (m c : ℕ) × (feed_says r.answer ≡ gave (m ∷ c ∷ []))
      × Yes (sections_of xs) (fed_lifted (book_of (calls xs)) pick) (length (row_of xs) + 1) m

-- Demand 3: u are the lifts of the picks

-- a split of the first i picks into k, on an ends list of k entries or more
pub record SplitRight (u : List ℕ) (i k : ℕ) (before : List ℕ) (said : Said) (after : List ℕ) : Type 0 where
  -- "refused for want of one exactly when none exists"
  pub wants : (said ≡ refused 9) ↔ ((ends : List ℕ) → Split (word u) i k ends → ⊥)
  pub keeps : said ≡ refused 9 → after ≡ before
  -- "and otherwise gives the ends of the one document 01 names": `Named` says that every other split, read from its last section back,
  -- first differs by a shorter section. The turn count is "the number of its sections with two or more picks"
  pub gives : (said ≡ refused 9 → ⊥)
      → (ends : List ℕ) × Named (word u) i k ends × (said ≡ gave (turn_count ends ∷ [])) × (after ≡ ends ++ drop k before)

-- "The longest ending's centre has moved exactly 2n - L half picks, L its length": moved is the number given, minus 1
pub record MovedRight (u : List ℕ) (said : Said) : Type 0 where
  pub L : ℕ
  pub longest : LongestEnding (word u) (length u) L
  pub moved : ℕ
  pub says : said ≡ gave ((1 + moved) ∷ [])
  pub exactly : moved ≡ 2 * length u - L

-- "Each accepted feed among them visited exactly the non-empty leading endings of its prefix, longest first, their lengths being the
-- first c entries of its visit list, c the count given": u has the pick, m is its length; state is what the feed left
pub record VisitsRight (u before : List ℕ) (said : Said) (state : Draft) (after : List ℕ) : Type 0 where
  pub mask : ℕ
  pub c : ℕ
  pub says : said ≡ gave (mask ∷ c ∷ [])
  pub fits : c ≤ length after
  pub visited : Visits (word u) (length u) (take c after)
  pub some : 1 ≤ c
  pub few : 3 ^ (c - 1) ≤ length u * 2 ^ (c - 1)
  pub kept : drop c after ≡ drop c before
  -- "after each accepted feed every visited length but the first is document 01's next shorter leading one, by the length and period this
  -- call gives for the visit before": b after a, and the empty ending after the last visit
  pub walked : (a b : ℕ) (r : Reply) → Follows a b (take c after ++ 0 ∷ []) → Reads state (next (centre (length u) a)) r
      → (to len p : ℕ) × (r.said ≡ gave (to ∷ len ∷ p ∷ [])) × (len ≡ a) × (b ≡ next_leading len p)

pub record Demand3 (d : Draft) (ms : List Made) : Type 0 where
  pub splits : (i k : ℕ) (before : List ℕ) (r : Reply)
      → i ≤ length (row_of ms) → 1 ≤ k → k ≤ sections_of ms → k ≤ length before
      → Reads (last d ms) (split i k before) r → SplitRight (lifted_of ms) i k before r.said r.list
  pub moved : (r : Reply) → Reads (last d ms) longest r → MovedRight (lifted_of ms) r.said
  pub visits : (xs : List Made) (pick : ℕ) (before : List ℕ) (r : Fed) (after : List ℕ) → FeedAmong ms xs pick before r after
      → Accepted (feed_says r.answer)
      → VisitsRight (fed_lifted (book_of (calls xs)) pick) before (feed_says r.answer) r.state after
  -- "A start or a feed is accepted exactly when the book takes it."
  pub starts : (xs ys : List Made) (K : ℕ) (r : Changed) → ms ≡ xs ++ started K r ∷ ys → Accepted (done_says r.answer) ↔ (start_taken K ≡ true)
  pub feeds : (xs : List Made) (pick : ℕ) (before : List ℕ) (r : Fed) (after : List ℕ) → FeedAmong ms xs pick before r after
      → Accepted (feed_says r.answer) ↔ (feed_taken (book_of (calls xs)) pick (length before) ≡ true)
  -- and so is a load
  pub loads : (xs ys : List Made) (lifts : List ℕ) (r : Changed) → ms ≡ xs ++ loaded lifts r ∷ ys
      → Accepted (done_says r.answer) ↔ (load_taken (book_of (calls xs)) lifts ≡ true)
  -- "Both mark calls join the runs of demand 3"
  pub marks : (xs ys : List Made) (name : ℕ) (r : Changed) → ms ≡ xs ++ marked name r ∷ ys
      → Accepted (done_says r.answer) ↔ (mark_taken (book_of (calls xs)) name ≡ true)
  pub backs : (xs ys : List Made) (name : ℕ) (r : Changed) → ms ≡ xs ++ returned name r ∷ ys
      → Accepted (done_says r.answer) ↔ (back_taken (book_of (calls xs)) name ≡ true)
  -- "no accepted feed makes that number smaller"
  pub onward : (xs : List Made) (pick : ℕ) (before : List ℕ) (r : Fed) (after : List ℕ) → FeedAmong ms xs pick before r after
      → Accepted (feed_says r.answer)
      → (p q : Reply) (a b : ℕ) → Reads (last d xs) longest p → Reads r.state longest q → p.said ≡ gave (a ∷ [])
      → q.said ≡ gave (b ∷ []) → a ≤ b

-- The state after a run

-- "The row word of prefix i ..", "The gathered word at place i .. After every call all gathered words hold this."
pub record WordsRight (d : Draft) (ms : List Made) : Type 0 where
  pub rows : (i : ℕ) → i ≤ length (row_of ms) → RowWord (sections_of ms) (word (lifted_of ms)) i (at (last d ms).places.rows i)
  pub gathered : (i : ℕ) → i ≤ length (row_of ms)
      → GatheredWord (sections_of ms) (word (lifted_of ms)) (length (row_of ms)) i (at (last d ms).places.gathered i)

-- Of every call on any state; and of every run that opens with an accepted start, each one claim about the whole list

abbrev pub Demand1Holds : Type 0
Demand1Holds = (d : Draft) (m : Made) → Meets d m → Demand1 d m

abbrev pub NextHolds : Type 0
NextHolds = (d : Draft) (c : ℕ) (r : Reply) → Reads d (next c) r → Accepted r.said → NextRight d.numbers.n c r.said

abbrev pub SplitHolds : Type 0
SplitHolds = (d : Draft) (i k : ℕ) (before : List ℕ) (r : Reply) → Reads d (split i k before) r → Accepted r.said → EndsRight i k before r

abbrev pub RecordHolds : Type 0
RecordHolds = (d : Draft) (i k : ℕ) (before : List ℕ) (r : Reply) → Reads d (fold i k before) r → Accepted r.said
    → RecordRight (word d.letters) i k before r

abbrev pub LongestHolds : Type 0
LongestHolds = (d : Draft) (r : Reply) → Reads d longest r → Accepted r.said → LongestRight d.numbers.n r.said

abbrev pub LiftHolds : Type 0
LiftHolds = (d : Draft) (letter : ℕ) (r : Reply) → Reads d (lift letter) r → LiftRight d letter r.said

abbrev pub OfEveryRun : (Draft → List Made → Type 0) → Type 0
OfEveryRun P = (d : Draft) (K : ℕ) (r : Changed) (ms : List Made) → Opened d K r ms → P d (started K r ∷ ms)

abbrev pub Demand1RunHolds : Type 0
Demand1RunHolds = OfEveryRun (λ d ms. Demand1Run ms)

abbrev pub Demand2Holds : Type 0
Demand2Holds = OfEveryRun Demand2

abbrev pub Demand3Holds : Type 0
Demand3Holds = OfEveryRun Demand3

abbrev pub WordsHold : Type 0
WordsHold = OfEveryRun WordsRight

-- the state is a function of the book: the empty draft under the book's lifts and with its marks, the row's letters fed one after another.
-- Whatever was stored before, refused, asked or abandoned between, or lent as a visit list counts for nothing
abbrev pub StateOfBook : Type 0
StateOfBook = OfEveryRun (λ d ms. last d ms ≡ state_of_book (book_of (calls ms)))

-- The transcript: every answer and every lent list of a run follows from the calls' arguments alone
abbrev pub Transcript : Type 0
Transcript = OfEveryRun (λ d ms. map reply_of ms ≡ replies blank (calls ms))

-- Of every call that is given no state

abbrev pub ShowHolds : Type 0
ShowHolds = (letters ends : List ℕ) (s : ℕ) (lent at : ℕ × ℕ) (part : List ℕ) (number : ℕ)
    → ShowPromise letters ends s part → ShowPlace letters ends s lent at → ShowNumberPromise letters ends s number
    → ShowRight letters ends s lent at part number
