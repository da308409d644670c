-- What each call replies: refused under the number of the first test that fails, or what is found. `reply_to` reads all of it from the
-- plain book.
use Rattle.std.specs.Prelude.{Bool, true, false, cond, List, [], ◌∷◌, ℕ, zero, suc, ◌-◌, eqb, leb, length, take, drop, get_or}
use Rattle.std.proofs.Math.Option.{Option, some, none}
use Rattle.words.specs.Definitions.{word, turn_count}
use Rattle.words.specs.Computed.{longest_centre, NextShorter, next_after, radius_at, visits, split_of}
use Rattle.words.specs.Computed.{mask as mask_of}
use Rattle.layout.specs.Record.{record_of}
use Rattle.layout.specs.Layout.{total}
use Rattle.layout.specs.Unfolding.{picks_of}
use Rattle.layout.specs.Reading.{Reading, whole, breaks, reading}
use Rattle.promises.specs.Answers.{Said, gave, refused, refused_at, Reply, reply, filled}
use Rattle.promises.specs.Refusals.{start_refusal, feed_refusal, load_refusal, mask_refusal, centre_refusal, longest_refusal, split_refusal, record_refusal, letter_refusal, show_refusal, unfold_refusal}
use Rattle.promises.specs.Lifts.{lift_in, first_zero}
use Rattle.promises.specs.Marks.{Marks, mark_at, is_mark, room_for}
use Rattle.promises.specs.Book.{Book, write, Call, start, feed, load, mark, back, ask, split, longest, mask, radius, next, fold, lift, lent, lifted, fed_lifted}

-- "A refusal returns its number only; state and lent buffers keep every byte.": refusal is how the number is said
unfoldable pub unless_said : (refusal : ℕ → Said) (number : ℕ) (list : List ℕ) → Reply → Reply
unless_said refusal zero list accepted = accepted
unless_said refusal (suc number) list accepted = reply (refusal (suc number)) list

-- the number alone
abbrev pub unless : (number : ℕ) (list : List ℕ) → Reply → Reply
unless = unless_said refused

-- 9. "No division of the prefix into k sections exists."
unfoldable pub or_no_split : Option (List ℕ) → (list : List ℕ) → (List ℕ → Reply) → Reply
or_no_split none list f = reply (refused 9) list
or_no_split (some ends) list f = f ends

-- 10. "The centre belongs to no ending, or to the empty one, when the next shorter is sought."
-- "besides the centre, the length and the least period of the ending it was given"
abbrev pub or_no_ending : Option NextShorter → Said
or_no_ending none = refused 10
or_no_ending (some e) = gave (e.centre ∷ e.length ∷ e.period ∷ [])

-- 5. "Record longer than the lent output."
unfoldable pub or_too_long : (bytes output : List ℕ) → Reply
or_too_long bytes output =
    cond (leb (length bytes) (length output)) (reply (gave (length bytes ∷ [])) (filled bytes output)) (reply (refused 5) output)

-- accepted, with no value; or refused
abbrev pub or_refused : Bool → (number : ℕ) → Said
or_refused true number = gave []
or_refused false number = refused number

-- 17. document 02: "no such mark"
abbrev pub or_no_mark : Marks → (name : ℕ) → Said
or_no_mark marks name = or_refused (is_mark (mark_at marks name)) 17

-- 18. document 02: "a fifth name"
abbrev pub or_fifth_name : Marks → (name : ℕ) → Said
or_fifth_name marks name = or_refused (room_for marks name) 18

-- What is found, as a reply

-- values, and no list
abbrev pub gives : (values : List ℕ) → Reply
gives values = reply (gave values) []

-- The mask's bits; "The lengths visited fill the front of the list, longest first; these entries are the pick's visits, and the count is
-- their number."
abbrev pub fed_reply : (bits : ℕ) (lengths list : List ℕ) → Reply
fed_reply bits lengths list = reply (gave (bits ∷ length lengths ∷ [])) (filled lengths list)

-- "It fills the first k entries of a lent list"; "It also gives the turn count", which is document 02's
abbrev pub split_reply : (found : Option (List ℕ)) (list : List ℕ) → Reply
split_reply found list = or_no_split found list (λ ends. reply (gave (turn_count ends ∷ [])) (filled ends list))

-- the record has the letters w
abbrev pub record_reply : (w : ℕ → ℕ) (i : ℕ) (found : Option (List ℕ)) (output : List ℕ) → Reply
record_reply w i found output = or_no_split found output (λ ends. or_too_long (record_of w i ends) output)

-- The calls

-- A call's number by the tests that do not hang on the draft or its marks: n and K are those stored
unfoldable pub refusal_of : (n K : ℕ) → Call → ℕ
unfolding start_refusal feed_refusal load_refusal mask_refusal centre_refusal longest_refusal split_refusal record_refusal letter_refusal
refusal_of n K (start k) = start_refusal k
refusal_of n K (feed pick list) = feed_refusal n K pick (length list)
refusal_of n K (load lifts) = load_refusal n K lifts
refusal_of n K (mark name) = letter_refusal n K name
refusal_of n K (back name) = letter_refusal n K name
refusal_of n K (ask (split i k list)) = split_refusal n K i k (length list)
refusal_of n K (ask longest) = longest_refusal n K
refusal_of n K (ask (mask i)) = mask_refusal n K i
refusal_of n K (ask (radius c)) = centre_refusal n K c
refusal_of n K (ask (next c)) = centre_refusal n K c
refusal_of n K (ask (fold i k output)) = record_refusal n K i k
refusal_of n K (ask (lift letter)) = letter_refusal n K letter

-- How a call says the number under which it is refused: "15, a lift of 0, with the first one's place from 0"; no other number of a call on a
-- state names a place
abbrev pub refusal_to : Call → (number : ℕ) → Said
refusal_to (start K) number = refused number
refusal_to (feed pick list) number = refused number
refusal_to (load lifts) number = cond (eqb number 15) (refused_at number (first_zero lifts)) (refused number)
refusal_to (mark name) number = refused number
refusal_to (back name) number = refused number
refusal_to (ask q) number = refused number

-- From the book: palindromes are read by lifts, a record has the letters

-- a feed's mask, and its visits
abbrev pub fed_mask : Book → ℕ → ℕ
fed_mask b pick = mask_of b.K (word (fed_lifted b pick)) (length (fed_lifted b pick))

abbrev pub fed_visits : Book → ℕ → List ℕ
fed_visits b pick = visits (word (fed_lifted b pick)) (length (fed_lifted b pick))

-- what the book has in reply to a call that passes these tests
unfoldable pub found_for : Book → Call → Reply
unfolding or_no_split or_too_long record_of
found_for b (start K) = gives []
found_for b (feed pick list) = fed_reply (fed_mask b pick) (fed_visits b pick) list
found_for b (load lifts) = gives []
found_for b (mark name) = reply (or_fifth_name b.marks name) []
found_for b (back name) = reply (or_no_mark b.marks name) []
found_for b (ask (split i k list)) = split_reply (split_of (word (lifted b)) i k) list
found_for b (ask longest) = gives (longest_centre (word (lifted b)) (length (lifted b)) ∷ [])
found_for b (ask (mask i)) = gives (mask_of b.K (word (lifted b)) i ∷ [])
found_for b (ask (radius c)) = gives (radius_at (word (lifted b)) (length (lifted b)) c ∷ [])
found_for b (ask (next c)) = reply (or_no_ending (next_after (word (lifted b)) (length (lifted b)) c)) []
found_for b (ask (fold i k output)) = record_reply (word b.row) i (split_of (word (lifted b)) i k) output
found_for b (ask (lift letter)) = gives (lift_in b.lifts letter ∷ [])

unfoldable pub reply_to : Book → Call → Reply
unfolding unless_said refusal_of lent found_for
reply_to b call = unless_said (refusal_to call) (refusal_of (length b.row) b.K call) (lent call) (found_for b call)

-- call by call, the book being written between
unfoldable pub replies : Book → List Call → List Reply
unfolding reply_to write
replies b [] = []
replies b (c ∷ cs) = reply_to b c ∷ replies (write b c) cs

-- The calls that are given no state

-- section s of the lent letters begins where the one before it ends
unfoldable pub section_of : (letters ends : List ℕ) (s : ℕ) → List ℕ
section_of letters ends s = take (get_or (0 ∷ ends) s 0 - get_or (0 ∷ ends) (s - 1) 0) (drop (get_or (0 ∷ ends) (s - 1) 0) letters)

-- "A refused show hands back an empty part"
unfoldable pub shown : (letters ends : List ℕ) (s : ℕ) → List ℕ
unfolding unless_said show_refusal section_of
shown letters ends s = (unless (show_refusal letters ends s) [] (reply (gave []) (section_of letters ends s))).list

-- how many of the lent letters stand before the part that is handed back: those of the sections before it, none where it is refused
unfoldable pub shown_behind : (letters ends : List ℕ) (s : ℕ) → ℕ
unfolding show_refusal
shown_behind letters ends s = cond (eqb (show_refusal letters ends s) 0) (get_or (0 ∷ ends) (s - 1) 0) 0

-- by what was read of the bytes: 11 with its place, then 12 and 5, else the picks at the list's front, and how many
unfoldable pub unfolded_to : Reading → (list : List ℕ) → Reply
unfolding unless_said unfold_refusal picks_of
unfolded_to (breaks place) list = reply (refused_at 11 place) list
unfolded_to (whole picks fs) list =
    unless (unfold_refusal (total fs) picks (length list)) list (reply (gave (picks ∷ [])) (filled (picks_of fs) list))

unfoldable pub unfold_reply : (bytes list : List ℕ) → Reply
unfolding reading unfolded_to
unfold_reply bytes list = unfolded_to (reading bytes) list
