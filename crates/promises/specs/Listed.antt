-- Document 01's two lists of refusals as propositions, with document 02's numbers: each line under its words, and for each call the lines
-- that it can meet, in the order in which they are tested: 7 first, then the input numbers in rising order but for 5, with 13 in the place
-- of 3, then 8, 9 or 10, then 5; a load's are 7, 14, 15, 16; 17 and 18 are tested where 8 is.
use Rattle.std.specs.Prelude.{◌≡◌, ◌≢◌, ◌⊎◌, List, [], ◌∷◌, ◌++◌, ℕ, ◌+◌, ◌*◌, ◌≤◌, ◌<◌, length}
use Rattle.std.proofs.Math.Option.{some}
use Rattle.words.specs.Definitions.{most_picks, most_sections, most_visits, first_letter, last_letter, word, centre, Ending, Split, Named, Rising}
use Rattle.layout.specs.Record.{Folded, record_of}
use Rattle.layout.specs.Layout.{Laid, Layout, total}
use Rattle.promises.specs.Lifts.{table_size, FirstZero}
use Rattle.promises.specs.Marks.{Marks, mark_at, most_marks, how_many}
use Rattle.promises.specs.Book.{Book, Call, start, feed, load, mark, back, ask, split, longest, mask, radius, next, fold, lift, lifted}

-- a line's number, and what it is to meet it
pub record Line : Type 1 where
  pub number : ℕ
  pub Met : Type 0

abbrev pub line : (number : ℕ) (Met : Type 0) → Line
line number Met = record { number = number; Met = Met }

-- number is that of the first line that is met
unfoldable pub First : List Line → (number : ℕ) → Type 0
First [] number = ⊥
First (l ∷ ls) number = (l.Met × (number ≡ l.number)) ⊎ ((l.Met → ⊥) × First ls number)

-- none of them is met
unfoldable pub NoneMet : List Line → Type 0
NoneMet [] = Unit
NoneMet (l ∷ ls) = (l.Met → ⊥) × NoneMet ls

-- x is outside low to high
abbrev pub Outside : (low high x : ℕ) → Type 0
Outside low high x = (x < low) ⊎ (high < x)

-- Refused because of the input

-- 1. "K outside 1 to 8, or k outside 1 to K": most is 8 or K
abbrev pub outside_sections : (most k : ℕ) → Line
outside_sections most k = line 1 (Outside 1 most k)

-- 2. "Pick not A to Z, in feeding or in looking up a lift"; document 02, "A name outside A to Z is 2"
abbrev pub no_letter : (pick : ℕ) → Line
no_letter pick = line 2 (Outside first_letter last_letter pick)

-- 3. "Visit list under 19 entries"
abbrev pub short_visits : (entries : ℕ) → Line
short_visits entries = line 3 (entries < most_visits)

-- 4. "Prefix above n, centre outside 1 to 2n+1, or s outside 1 to the number of ends"
abbrev pub prefix_above : (n i : ℕ) → Line
prefix_above n i = line 4 (n < i)

abbrev pub centre_outside : (n c : ℕ) → Line
centre_outside n c = line 4 (Outside 1 (2 * n + 1) c)

abbrev pub no_such_end : (ends : List ℕ) (s : ℕ) → Line
no_such_end ends s = line 4 (Outside 1 (length ends) s)

-- 5. "Record longer than the lent output": the record has the row's letters, and its split is the one named of u
abbrev pub record_longer : (row u : List ℕ) (i k : ℕ) (output : List ℕ) → Line
record_longer row u i k output = line 5 ((ends : List ℕ) × Named (word u) i k ends × (length output < length (record_of (word row) i ends)))

-- document 02, "a list too short is 5": it has fewer entries than the record has picks
abbrev pub list_shorter : (bytes list : List ℕ) → Line
list_shorter bytes list = line 5 ((picks : ℕ) × (fs : List Folded) × Laid bytes picks fs × (length list < picks))

-- 6. "Ends not rising strictly from above 0 to exactly the number of lent letters"
abbrev pub ends_not_rising : (letters ends : List ℕ) → Line
ends_not_rising letters ends = line 6 (Rising (length letters) 0 ends → ⊥)

-- 11. document 02, "the first byte that cannot continue the layout": its place is `BreaksAt`
abbrev pub no_record : (bytes : List ℕ) → Line
no_record bytes = line 11 (Layout bytes → ⊥)

-- 12. document 02, "lengths not adding up to the picks"
abbrev pub lengths_differ : (bytes : List ℕ) → Line
lengths_differ bytes = line 12 ((picks : ℕ) × (fs : List Folded) × Laid bytes picks fs × (total fs ≢ picks))

-- 13. document 02, "ends list under k entries"
abbrev pub short_ends : (k entries : ℕ) → Line
short_ends k entries = line 13 (entries < k)

-- 14. document 02, "not 26 bytes"
abbrev pub no_table : (bytes : ℕ) → Line
no_table bytes = line 14 (bytes ≢ table_size)

-- 15. document 02, "a lift of 0": it has a place
abbrev pub zero_lift : (lifts : List ℕ) → Line
zero_lift lifts = line 15 ((place : ℕ) × FirstZero lifts place)

-- Refused because of the state

-- 7. "Stored n above 2,048 or stored K outside 1 to 8"
abbrev pub no_draft : (n K : ℕ) → Line
no_draft n K = line 7 ((most_picks < n) ⊎ Outside 1 most_sections K)

-- 8. "Feeding with n = 2,048"
abbrev pub full : (n : ℕ) → Line
full n = line 8 (n ≡ most_picks)

-- 9. "No division of the prefix into k sections exists"
abbrev pub no_split : (u : List ℕ) (i k : ℕ) → Line
no_split u i k = line 9 ((ends : List ℕ) → Split (word u) i k ends → ⊥)

-- 10. "The centre belongs to no ending, or to the empty one, when the next shorter is sought"
abbrev pub no_ending : (u : List ℕ) (c : ℕ) → Line
no_ending u c = line 10 ((len : ℕ) → 0 < len → Ending (word u) (length u) len → centre (length u) len ≡ c → ⊥)

-- 16. document 02, "the draft is not empty"
abbrev pub begun : (n : ℕ) → Line
begun n = line 16 (n ≢ 0)

-- 17. document 02, "no such mark"
abbrev pub no_such_mark : Marks → (name : ℕ) → Line
no_such_mark marks name = line 17 ((m : ℕ) → mark_at marks name ≡ some m → ⊥)

-- 18. document 02, "a fifth name": it is no mark, and four others are
abbrev pub fifth_name : Marks → (name : ℕ) → Line
fifth_name marks name = line 18 (((m : ℕ) → mark_at marks name ≡ some m → ⊥) × (most_marks ≤ how_many marks))

-- The lines that a call can meet

-- by its arguments and the stored n and K: 7, 1, 2, 3, 13, 4, 8; 7, 14, 15, 16. "Start doesn't look at it": at 7
unfoldable pub listed : (n K : ℕ) → Call → List Line
listed n K (start k) = outside_sections most_sections k ∷ []
listed n K (feed pick visits) = no_draft n K ∷ no_letter pick ∷ short_visits (length visits) ∷ full n ∷ []
listed n K (load lifts) = no_draft n K ∷ no_table (length lifts) ∷ zero_lift lifts ∷ begun n ∷ []
listed n K (mark name) = no_draft n K ∷ no_letter name ∷ []
listed n K (back name) = no_draft n K ∷ no_letter name ∷ []
listed n K (ask (split i k ends)) = no_draft n K ∷ outside_sections K k ∷ short_ends k (length ends) ∷ prefix_above n i ∷ []
listed n K (ask longest) = no_draft n K ∷ []
listed n K (ask (mask i)) = no_draft n K ∷ prefix_above n i ∷ []
listed n K (ask (radius c)) = no_draft n K ∷ centre_outside n c ∷ []
listed n K (ask (next c)) = no_draft n K ∷ centre_outside n c ∷ []
listed n K (ask (fold i k output)) = no_draft n K ∷ outside_sections K k ∷ prefix_above n i ∷ []
listed n K (ask (lift letter)) = no_draft n K ∷ no_letter letter ∷ []

-- and by the picks, which are read by their lifts, and by the marks: 9, 10, 5, 17, 18
unfoldable pub sought : Book → Call → List Line
sought b (start k) = []
sought b (feed pick visits) = []
sought b (load lifts) = []
sought b (mark name) = fifth_name b.marks name ∷ []
sought b (back name) = no_such_mark b.marks name ∷ []
sought b (ask (split i k ends)) = no_split (lifted b) i k ∷ []
sought b (ask longest) = []
sought b (ask (mask i)) = []
sought b (ask (radius c)) = []
sought b (ask (next c)) = no_ending (lifted b) c ∷ []
sought b (ask (fold i k output)) = no_split (lifted b) i k ∷ record_longer b.row (lifted b) i k output ∷ []
sought b (ask (lift letter)) = []

-- all of them, on a draft with what stands in the book
abbrev pub lines : Book → Call → List Line
lines b call = listed (length b.row) b.K call ++ sought b call

-- show and unfold are given no state
abbrev pub show_lines : (letters ends : List ℕ) (s : ℕ) → List Line
show_lines letters ends s = no_such_end ends s ∷ ends_not_rising letters ends ∷ []

-- 11, 12, and 5 last
abbrev pub unfold_lines : (bytes list : List ℕ) → List Line
unfold_lines bytes list = no_record bytes ∷ lengths_differ bytes ∷ list_shorter bytes list ∷ []
