-- Of a table only counts which letters lift alike; where no two do, a row is read as its letters.
use mathlib.Core.Path.{◌≡◌, refl, sym, ap, ap₂, ◌∙◌}
use mathlib.Core.List.{List, [], ◌∷◌}
use Prim.Native.Nat.{ℕ, zero, suc, ◌+◌, ◌-◌, ◌≤◌, ◌<◌}
use native.Mathlib.Omega.{arith}
use lib.ListN.{length, get_or}
use Rattle.words.specs.Definitions.{word, first_letter}
use Rattle.words.specs.Computed.{longest_centre, next_after, radius_at, visits, split_of}
use Rattle.words.specs.Computed.{mask as mask_of}
use Rattle.layout.specs.Layout.{Every, none, more, Letter}
use Rattle.layout.proofs.Entries.{every_at, every_snoc}
use Rattle.promises.specs.Answers.{reply}
use Rattle.promises.specs.Lifts.{table_size, lift_in, lifted_by, Distinct}
use Rattle.promises.proofs.LiftLaws.{lifted_length, lifted_at}
use Rattle.promises.specs.Book.{Book, Call, start, feed, load, mark, back, ask, split, longest, mask, radius, next, fold, lift, blank, lent, lifted, fed_row, book_of}
use Rattle.promises.specs.Replies.{or_no_ending, gives, fed_reply, split_reply, record_reply, refusal_of, refusal_to, found_for, reply_to}
use Rattle.promises.proofs.RefusalLaws.{feed_fits, mask_fits, record_fits, split_fits}
use Rattle.promises.proofs.BookLaws.{said_as}
use Rattle.promises.specs.Runs.{call_of, calls}
use Rattle.promises.specs.Alike.{Alike, with_table, NoLift, AlikeHolds, alphabet, ReadAsLetters, ByLettersHolds}
use Rattle.promises.proofs.LikeWords.{Like, visits_like, longest_like, radius_like, next_like, splits_like, mask_like}
use Rattle.promises.proofs.Keeping.{letters_of, replied_at}

-- A row of letters under two tables

alike_back : (lifts other : List ℕ) → Alike lifts other → Alike other lifts
alike_back lifts other a x y p q = let e = a x y p q in (e.1, e.0)

row_like : (lifts other row : List ℕ) → Alike lifts other → Every Letter row → Like (word (lifted_by lifts row)) (word (lifted_by other row)) (length row)
row_like lifts other row a h i j l m e =
    lifted_at other row i l
    ∙ (a (get_or row i 0) (get_or row j 0) (every_at h i l) (every_at h j m)).0 (sym (lifted_at lifts row i l) ∙ e ∙ lifted_at lifts row j m)
    ∙ sym (lifted_at other row j m)

module _ (lifts other row : List ℕ) (h : Every Letter row) (a : Alike lifts other) where
  u : List ℕ
  u = lifted_by lifts row

  v : List ℕ
  v = lifted_by other row

  forward : Like (word u) (word v) (length row)
  unfolding u v
  forward = row_like lifts other row a h

  backward : Like (word v) (word u) (length row)
  unfolding u v
  backward = row_like other lifts row (alike_back lifts other a) h

  -- each is as long as the row
  as_long : {A : Type 0} (f : (ℕ → ℕ) → ℕ → A) → ((n : ℕ) → n ≤ length row → f (word u) n ≡ f (word v) n) → f (word u) (length u) ≡ f (word v) (length v)
  unfolding u v
  as_long f e = ap (f (word u)) (lifted_length lifts row) ∙ e (length row) (omega arith) ∙ ap (f (word v)) (sym (lifted_length other row))

  mask_same : (K : ℕ) → mask_of K (word u) (length u) ≡ mask_of K (word v) (length v)
  mask_same K = as_long (mask_of K) (mask_like forward backward K)

  visits_same : visits (word u) (length u) ≡ visits (word v) (length v)
  visits_same = as_long visits (visits_like forward backward)

-- One call that passes the tests that do not hang on the picks

module _ (b : Book) (other : List ℕ) (h : Every Letter b.row) (a : Alike b.lifts other) where
  to : Like (word (lifted b)) (word (lifted (with_table b other))) (length b.row)
  unfolding u v
  to = forward b.lifts other b.row h a

  from : Like (word (lifted (with_table b other))) (word (lifted b)) (length b.row)
  unfolding u v
  from = backward b.lifts other b.row h a

  split_same : (i k : ℕ) → i ≤ length b.row → split_of (word (lifted b)) i k ≡ split_of (word (lifted (with_table b other))) i k
  split_same i k l = splits_like to from k i l

  found_alike : (call : Call) → NoLift call → refusal_of (length b.row) b.K call ≡ 0 → found_for b call ≡ found_for (with_table b other) call
  unfolding found_for refusal_of u v
  found_alike (start K) f z = refl
  found_alike (feed pick list) f z =
      let g = every_snoc h (feed_fits (length b.row) b.K pick (length list) z).letter in
      ap₂ (λ m vs. fed_reply m vs list) (mask_same b.lifts other (fed_row b pick) g a b.K) (visits_same b.lifts other (fed_row b pick) g a)
  found_alike (load lifts) f z = refl
  found_alike (mark name) f z = refl
  found_alike (back name) f z = refl
  found_alike (ask (split i k list)) f z =
      ap (λ o. split_reply o list) (split_same i k (split_fits (length b.row) b.K i k (length list) z).0.prefix)
  found_alike (ask longest) f z = ap (λ c. gives (c ∷ [])) (as_long b.lifts other b.row h a longest_centre (longest_like to from))
  found_alike (ask (mask i)) f z = ap (λ m. gives (m ∷ [])) (mask_like to from b.K i (mask_fits (length b.row) b.K i z))
  found_alike (ask (radius c)) f z =
      ap (λ r. gives (r ∷ [])) (as_long b.lifts other b.row h a (λ w n. radius_at w n c) (λ n. radius_like to from n c))
  found_alike (ask (next c)) f z =
      ap (λ o. reply (or_no_ending o) []) (as_long b.lifts other b.row h a (λ w n. next_after w n c) (λ n. next_like to from n c))
  found_alike (ask (fold i k output)) f z =
      ap (λ o. record_reply (word b.row) i o output) (split_same i k (record_fits (length b.row) b.K i k z).prefix)
  found_alike (ask (lift letter)) f z = absurd (f letter refl)

pub alike : AlikeHolds
unfolding reply_to
alike b other call h a f = said_as (refusal_to call) (refusal_of (length b.row) b.K call) (lent call) _ _ (found_alike b other h a call f)

-- The letters as a table

-- n numbers from a on
up_from : (a n : ℕ) → List ℕ
up_from a zero = []
up_from a (suc n) = a ∷ up_from (suc a) n

from_at : (a n i : ℕ) → i < n → get_or (up_from a n) i 0 ≡ a + i
unfolding up_from
from_at a zero i l = absurd (omega arith)
from_at a (suc n) zero l = omega arith
from_at a (suc n) (suc i) l = from_at (suc a) n i (omega arith) ∙ omega arith

alphabet_is : alphabet ≡ up_from first_letter table_size
unfolding alphabet up_from
alphabet_is = refl

letter_read : (x : ℕ) → Letter x → lift_in alphabet x ≡ x
letter_read x l =
    ap (λ t. get_or t (x - first_letter) 0) alphabet_is ∙ from_at first_letter table_size (x - first_letter) (omega (arith, l.low, l.high))
    ∙ omega (arith, l.low)

pub read_as_letters : ReadAsLetters
read_as_letters [] none = refl
read_as_letters (x ∷ row) (more p ps) = ap₂ (λ y t. y ∷ t) (letter_read x p) (read_as_letters row ps)

distinct_alike : (lifts : List ℕ) → Distinct lifts → Alike lifts alphabet
distinct_alike lifts f x y p q = (
  λ e. ap (lift_in alphabet) (f x y p q e),
  λ e. ap (lift_in lifts) (sym (letter_read x p) ∙ e ∙ letter_read y q),
)

pub by_letters : ByLettersHolds
by_letters d K r ms o xs ys m e f g =
    let b = book_of (calls xs) in
    replied_at o xs ys m e ∙ alike b alphabet (call_of m) (letters_of blank (calls xs) none) (distinct_alike b.lifts f) g
