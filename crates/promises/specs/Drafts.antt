-- The drafts marked P in document 01, with document 02's turn counts: one table, each row a draft, a question and the documents' answer.
-- All have K = 8 and the fixed lifts.
use Rattle.std.specs.Prelude.{◌≡◌, List, [], ◌∷◌, map, ℕ, suc, ◌-◌, ◌≤◌, length, take, drop, get_or}
use Rattle.std.proofs.Math.Option.{Option, some, none}
use Prim.Native.String.{String}
use Rattle.words.specs.Definitions.{most_sections, most_visits}
use Rattle.text.specs.Definitions.{bytes}
use Rattle.promises.specs.Answers.{gave, refused, Reply, reply, filled}
use Rattle.promises.specs.Lifts.{fixed_lifts}
use Rattle.promises.specs.Marks.{no_marks}
use Rattle.promises.specs.Book as calls
use Rattle.promises.specs.Book.{Book, book, Call, book_of}
use Rattle.promises.specs.Replies.{fed_mask, reply_to}
use Rattle.promises.specs.Demands.{Answered}

pub data Question : Type 0 where
  mask visits moved : Question
  split_in : (k : ℕ) → Question
  radius_at : (c : ℕ) → Question

-- numbers, of a split its turn count and its ends; or none where there is no split
pub record Row : Type 0 where
  pub letters : List ℕ
  pub question : Question
  pub answer : Option (List ℕ)

row : String → Question → Option (List ℕ) → Row
unfolding bytes
row t q a = record { letters = bytes t; question = q; answer = a }

unfoldable pub table : List Row
unfolding row
table =
    row "" mask (some (0 ∷ []))
    ∷ row "" (split_in 1) none
    ∷ row "" (split_in 2) none
    ∷ row "" (split_in 3) none
    ∷ row "" (split_in 4) none
    ∷ row "" (split_in 5) none
    ∷ row "" (split_in 6) none
    ∷ row "" (split_in 7) none
    ∷ row "" (split_in 8) none
    ∷ row "A" mask (some (1 ∷ []))
    ∷ row "A" visits (some (1 ∷ []))
    ∷ row "AA" mask (some (3 ∷ []))
    ∷ row "AAA" mask (some (7 ∷ []))
    ∷ row "AAA" visits (some (3 ∷ 1 ∷ []))
    ∷ row "AB" mask (some (2 ∷ []))
    ∷ row "ABABAB" mask (some (42 ∷ []))
    ∷ row "ABABAB" visits (some (5 ∷ 3 ∷ 1 ∷ []))
    ∷ row "ABABABA" mask (some (85 ∷ []))
    ∷ row "ABABABA" visits (some (7 ∷ 3 ∷ 1 ∷ []))
    ∷ row "AAA" (split_in 2) (some (1 ∷ 1 ∷ 3 ∷ []))
    ∷ row "ABACDDC" mask (some (122 ∷ []))
    ∷ row "ABACDDC" (split_in 2) (some (2 ∷ 3 ∷ 7 ∷ []))
    ∷ row "ABACDDC" moved (some (10 ∷ []))
    ∷ row "AABACABAA" (radius_at 10) (some (4 ∷ []))
    ∷ row "AABACABAA" (radius_at 11) (some (0 ∷ []))
    ∷ row "AABACABAA" (radius_at 3) (some (1 ∷ []))
    ∷ []

-- What a row says of the replies

-- the picks that are fed before the question: the visits are those of the last pick
abbrev pub row_for : List ℕ → Question → List ℕ
row_for u mask = u
row_for u visits = take (length u - 1) u
row_for u moved = u
row_for u (split_in k) = u
row_for u (radius_at c) = u

abbrev pub book_for : List ℕ → Question → Book
book_for u q = book most_sections fixed_lifts (row_for u q) no_marks

abbrev pub last_pick : List ℕ → ℕ
last_pick u = get_or u (length u - 1) 0

abbrev pub call_for : List ℕ → Question → (list : List ℕ) → Call
call_for u mask list = calls.ask (calls.mask (length u))
call_for u visits list = calls.feed (last_pick u) list
call_for u moved list = calls.ask calls.longest
call_for u (split_in k) list = calls.ask (calls.split (length u) k list)
call_for u (radius_at c) list = calls.ask (calls.radius c)

-- how many entries are lent: 19 to a feed, k to a split
abbrev pub entries : Question → ℕ
entries mask = 0
entries visits = most_visits
entries moved = 0
entries (split_in k) = k
entries (radius_at c) = 0

-- the reply that has the answer: moved is the centre given, minus 1; no split is number 9, and the list as it was
abbrev pub reply_with : List ℕ → Question → Option (List ℕ) → (list : List ℕ) → Reply
reply_with u q none list = reply (refused 9) list
reply_with u mask (some values) list = reply (gave values) []
reply_with u visits (some lengths) list =
    reply (gave (fed_mask (book_for u visits) (last_pick u) ∷ length lengths ∷ [])) (filled lengths list)
reply_with u moved (some values) list = reply (gave (map suc values)) []
reply_with u (split_in k) (some values) list = reply (gave (take 1 values)) (filled (drop 1 values) list)
reply_with u (radius_at c) (some values) list = reply (gave values) []

-- for any list of so many entries
abbrev pub Right : Row → Type 0
Right r = (list : List ℕ) → length list ≡ entries r.question
    → reply_to (book_for r.letters r.question) (call_for r.letters r.question list)
    ≡ reply_with r.letters r.question r.answer list

-- and of the definitions: what the table has is refused by the first line that the call meets, or says what document 01 says
abbrev pub Means : Row → Type 0
Means r = (list : List ℕ) → length list ≡ entries r.question
    → Answered (book_for r.letters r.question) (call_for r.letters r.question list) (reply_with r.letters r.question r.answer list)

-- feeds of these picks, each with a visit list of 19 entries or more
pub data Feeds : (picks : List ℕ) → List Call → Type 0 where
  no_feed : Feeds [] []
  one_more : {pick : ℕ} {picks list : List ℕ} {cs : List Call} → most_visits ≤ length list → Feeds picks cs
      → Feeds (pick ∷ picks) (calls.feed pick list ∷ cs)

-- the book is that of a start with 8 and these feeds
abbrev pub Kept : Row → Type 0
Kept r = (cs : List Call) → Feeds (row_for r.letters r.question) cs
    → book_of (calls.start most_sections ∷ cs) ≡ book_for r.letters r.question
