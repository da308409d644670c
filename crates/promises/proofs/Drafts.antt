-- The fact of the drafts marked P: the replies to each row's question are those of the table.
use mathlib.Core.Path.{◌≡◌, refl, sym, ap, subst, ◌∙◌}
use mathlib.Core.Bool.{Bool, true, ◌&&◌, and-eq-true_iff}
use mathlib.Core.List.{List, [], ◌∷◌, ◌++◌, append-nil, append_assoc, map, Memᴰ}
use mathlib.Core.Option.{Option, some, none}
use Prim.Native.Nat.{ℕ, ◌+◌, ◌-◌, ◌≤◌}
use native.Mathlib.Omega.{arith}
use lib.Dec.{leb}
use lib.ListN.{length, replicate, length-replicate, length-append}
use borrow.Author.Tests.{le-leb, lt-ltb, leb-true}
use Rattle.words.specs.Definitions.{most_picks, most_sections, most_visits, first_letter, last_letter, word, turn_count}
use Rattle.words.specs.Ranges.{between}
use Rattle.words.specs.Computed.{longest_centre, split_of}
use Rattle.words.specs.Computed.{mask as mask_of, visits as lengthsOf, radius_at as radius_of}
use Rattle.words.proofs.Laws.{longest_centre_lem}
use Rattle.promises.specs.Answers.{gave, reply}
use Rattle.promises.specs.Lifts.{fixed_lifts, lifted_by}
use Rattle.promises.specs.Replies.{or_no_split, split_reply, refusal_of, fed_visits, found_for, reply_to}
use Rattle.promises.specs.Marks.{Marks, no_marks}
use Rattle.promises.specs.Book.{book, Call, lent, feed_taken, write, write_all}
use Rattle.promises.proofs.BookLaws.{unless_zero}
use Rattle.promises.specs.Drafts.{Question, mask, visits, moved, split_in, radius_at, Row, table, row_for, book_for, last_pick, call_for, entries, reply_with, Right, Means, Feeds, no_feed, one_more, Kept}
use Rattle.promises.specs.Demands.{Answered}
use Rattle.promises.proofs.Answering.{answered}

-- One test over the whole table: no row's call meets a line that needs no letters, and what is found is the answer

with_turns : Option (List ℕ) → Option (List ℕ)
with_turns none = none
with_turns (some ends) = some (turn_count ends ∷ ends)

-- what is read of the letters
read : List ℕ → List ℕ
read u = lifted_by fixed_lifts u

found : List ℕ → Question → Option (List ℕ)
unfolding mask_of lengthsOf longest_centre split_of with_turns radius_of read
found u mask = some (mask_of most_sections (word (read u)) (length u) ∷ [])
found u visits = some (fed_visits (book_for u visits) (last_pick u))
found u moved = some ((longest_centre (word (read u)) (length (read u)) - 1) ∷ [])
found u (split_in k) = with_turns (split_of (word (read u)) (length u) k)
found u (radius_at c) = some (radius_of (word (read u)) (length (read u)) c ∷ [])

-- on a list of so many zeros: the number hangs on the list's length only
number : List ℕ → Question → ℕ
unfolding refusal_of
number u q = refusal_of (length (book_for u q).row) most_sections (call_for u q (replicate (entries q) 0))

computed : List Row → List (ℕ × Option (List ℕ))
unfolding found number
computed rows = map (λ r. (number r.letters r.question, found r.letters r.question)) rows

expected : List Row → List (ℕ × Option (List ℕ))
expected rows = map (λ r. (0, r.answer)) rows

tested : computed table ≡ expected table
unfolding computed expected table
tested = refl

-- from the test to each row

at_row : {A : Type 0} (f g : Row → A) (rows : List Row) → map f rows ≡ map g rows → (r : Row) → Memᴰ r rows → f r ≡ g r
at_row f g [] e r h = elim h [ ]
at_row f g (x ∷ rows) e r (Memᴰ.head p) = let z : f x ≡ g x = cc in rw p z
at_row f g (x ∷ rows) e r (Memᴰ.tail h) = let z : map f rows ≡ map g rows = cc in at_row f g rows z r h

same_number : (n K : ℕ) (u : List ℕ) (q : Question) (list other : List ℕ) → length list ≡ length other
    → refusal_of n K (call_for u q list) ≡ refusal_of n K (call_for u q other)
unfolding refusal_of
same_number n K u mask list other e = refl
same_number n K u visits list other e = rw e
same_number n K u moved list other e = refl
same_number n K u (split_in k) list other e = rw e
same_number n K u (radius_at c) list other e = refl

reply_is : (u : List ℕ) (q : Question) (answer : Option (List ℕ)) (list : List ℕ)
    → refusal_of (length (book_for u q).row) most_sections (call_for u q list) ≡ 0 → found u q ≡ answer
    → reply_to (book_for u q) (call_for u q list) ≡ reply_with u q answer list
unfolding reply_to refusal_of lent found_for found with_turns or_no_split read
reply_is u mask answer list z e = rw (← e) (unless_zero _ [] _ z)
reply_is u visits answer list z e = rw (← e) (unless_zero _ list _ z)
reply_is u moved answer list z e =
    rw (← e) (unless_zero _ [] _ z ∙ ap (λ c. reply (gave (c ∷ [])) []) (omega (arith, longest_centre_lem (word (read u)) (length (read u)))))
reply_is u (split_in k) answer list z e =
    unless_zero _ list _ z ∙ counted (split_of (word (read u)) (length u) k) ∙ ap (λ a. reply_with u (split_in k) a list) e
  where
    counted : (o : Option (List ℕ)) → split_reply o list ≡ reply_with u (split_in k) (with_turns o) list
    counted none = refl
    counted (some ends) = refl
reply_is u (radius_at c) answer list z e = rw (← e) (unless_zero _ [] _ z)

-- THE FACT: of each row, for any list of as many entries as its question lends
pub drafts : (r : Row) → Memᴰ r table → Right r
unfolding computed expected number
drafts r h list l =
    let e = at_row _ _ table tested r h in
    let z : refusal_of _ most_sections (call_for r.letters r.question list) ≡ 0 =
    same_number _ most_sections r.letters r.question list (replicate (entries r.question) 0) (l ∙ sym (length-replicate {A = ℕ} (entries r.question) 0))
    ∙ ap (λ x. x.0) e in
    reply_is r.letters r.question r.answer list z (ap (λ x. x.1) e)

pub drafts_mean : (r : Row) → Memᴰ r table → Means r
drafts_mean r h list l = subst (Answered _ _) (drafts r h list l) (answered _ _)

-- The book: one test over the whole table, that the picks before each question are letters, and not too many

lettered : List ℕ → Bool
lettered [] = true
lettered (x ∷ u) = between first_letter last_letter x && lettered u

picked : List Row → List Bool
unfolding lettered
picked rows = map (λ r. lettered (row_for r.letters r.question) && leb (length (row_for r.letters r.question)) most_picks) rows

passes : List Row → List Bool
passes rows = map (λ r. true) rows

tested_picks : picked table ≡ passes table
unfolding picked passes table
tested_picks = refl

-- each feed is taken
feeds_book : (K : ℕ) (lifts row : List ℕ) (marks : Marks) {picks : List ℕ} {cs : List Call} → Feeds picks cs → lettered picks ≡ true
    → length row + length picks ≤ most_picks → write_all (book K lifts row marks) cs ≡ book K lifts (row ++ picks) marks
unfolding write_all write lettered
feeds_book K lifts row marks no_feed e l = ap (λ u. book K lifts u marks) (sym (append-nil row))
feeds_book K lifts row marks (one_more {pick = pick} {picks = picks} {list = list} {cs = cs} v f) e l =
    let p = (and-eq-true_iff (between first_letter last_letter pick) (lettered picks)).0 e in
    let t : feed_taken (book K lifts row marks) pick (length list) ≡ true =
    simp (p.0, le-leb most_visits (length list) v, lt-ltb (length row) most_picks (omega arith)) in
    rw t
    (feeds_book K lifts (row ++ pick ∷ []) marks f p.1 (omega (arith, length-append row (pick ∷ [])))
    ∙ ap (λ u. book K lifts u marks) (append_assoc row (pick ∷ []) picks))

pub drafts_kept : (r : Row) → Memᴰ r table → Kept r
unfolding picked passes write_all write
drafts_kept r h cs f =
    let u = row_for r.letters r.question in
    let t = (and-eq-true_iff (lettered u) (leb (length u) most_picks)).0 (at_row _ _ table tested_picks r h) in
    feeds_book most_sections fixed_lifts [] no_marks f t.0 (omega (arith, leb-true (length u) most_picks t.1))
