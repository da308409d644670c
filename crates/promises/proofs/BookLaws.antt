-- The order of tests and the book: a call has the number 0 exactly where the book takes it, and what it replies under a number.
use Rattle.std.specs.Prelude.{◌≡◌, Bool, true, false, cond, ◌&&◌, ◌≢◌, List, [], eqb, leb, ltb, length}
use Rattle.std.proofs.Math.Path.{refl}
use Rattle.std.proofs.Math.Bool.{and-eq-true_iff}
use Rattle.std.proofs.Common.{inl, inr, arith, le-leb, eqb-true}
use Rattle.std.proofs.lemmas.List.{nil_from_length}
use Prim.Native.Nat.{ℕ, zero, suc, ◌≤◌}
use Rattle.words.specs.Definitions.{most_picks, most_sections, most_visits, first_letter, last_letter}
use Rattle.words.specs.Ranges.{between}
use Rattle.promises.specs.Answers.{Said, refused, refused_at, Under, Reply, reply}
use Rattle.promises.specs.Refusals.{test, line7, start_refusal, feed_refusal, load_refusal, letter_refusal}
use Rattle.promises.specs.Lifts.{table_size, none_zero, first_zero}
use Rattle.promises.specs.Book.{Book, Call, start, feed, load, mark, back, ask, start_taken, feed_taken, load_taken}
use Rattle.promises.specs.Replies.{unless_said, unless, refusal_to}

-- Whether the book takes a call, and the call's number

pub data Case (t : Bool) (number : ℕ) : Type 0 where
  taken : t ≡ true → number ≡ 0 → Case t number
  left : t ≡ false → number ≢ 0 → Case t number

one_case : (t : Bool) (x : ℕ) → Case t (test t (suc x) 0)
one_case true x = taken refl refl
one_case false x = left refl (λ e. omega arith)

three_case : (a b c : Bool) (x y z : ℕ) → Case (a && (b && c)) (test a (suc x) (test b (suc y) (test c (suc z) 0)))
three_case true true true x y z = taken refl refl
three_case true true false x y z = left refl (λ e. omega arith)
three_case true false c x y z = left refl (λ e. omega arith)
three_case false b c x y z = left refl (λ e. omega arith)

pub start_cases : (K : ℕ) → Case (start_taken K) (start_refusal K)
unfolding start_refusal
start_cases K = one_case (between 1 most_sections K) 0

-- a state that passes test 7
pub passes7 : (n K after : ℕ) → n ≤ most_picks → 1 ≤ K → K ≤ most_sections → line7 n K after ≡ after
passes7 n K after a b c = simp (le-leb n most_picks a, le-leb 1 K b, le-leb K most_sections c)

pub feed_cases : (b : Book) (pick entries : ℕ) → length b.row ≤ most_picks → 1 ≤ b.K → b.K ≤ most_sections
    → Case (feed_taken b pick entries) (feed_refusal (length b.row) b.K pick entries)
unfolding feed_refusal
feed_cases b pick entries x y z =
    rw (passes7 (length b.row) b.K _ x y z)
    (three_case (between first_letter last_letter pick) (leb most_visits entries) (ltb (length b.row) most_picks) 1 2 7)

pub load_cases : (b : Book) (lifts : List ℕ) → length b.row ≤ most_picks → 1 ≤ b.K → b.K ≤ most_sections
    → Case (load_taken b lifts) (load_refusal (length b.row) b.K lifts)
unfolding load_refusal
load_cases b lifts x y z =
    rw (passes7 (length b.row) b.K _ x y z)
    (three_case (eqb (length lifts) table_size) (none_zero lifts) (eqb (length b.row) 0) 13 14 15)

-- of a mark and of going back: whether the name is A to Z
pub letter_cases : (b : Book) (name : ℕ) → length b.row ≤ most_picks → 1 ≤ b.K → b.K ≤ most_sections
    → Case (between first_letter last_letter name) (letter_refusal (length b.row) b.K name)
unfolding letter_refusal
letter_cases b name x y z = rw (passes7 (length b.row) b.K _ x y z) (one_case (between first_letter last_letter name) 1)

-- a load is taken while the row is empty
pub empty_taken : (b : Book) (lifts : List ℕ) → load_taken b lifts ≡ true → b.row ≡ []
empty_taken b lifts t =
    let r = ((and-eq-true_iff (eqb (length lifts) table_size) (none_zero lifts && eqb (length b.row) 0)).0 t).1 in
    nil_from_length b.row (eqb-true _ _ ((and-eq-true_iff (none_zero lifts) (eqb (length b.row) 0)).0 r).1)

-- A reply under a number, however it is said

module _ (refusal : ℕ → Said) where
  pub said_zero : (number : ℕ) (list : List ℕ) (accepted : Reply) → number ≡ 0 → unless_said refusal number list accepted ≡ accepted
  unfolding unless_said
  said_zero number list accepted e = rw e

  pub said_not : (number : ℕ) (list : List ℕ) (accepted : Reply) → number ≢ 0 → unless_said refusal number list accepted ≡ reply (refusal number) list
  unfolding unless_said
  said_not zero list accepted f = absurd (f refl)
  said_not (suc number) list accepted f = refl

  -- what is accepted counts only where the number is 0
  pub said_as : (number : ℕ) (list : List ℕ) (x y : Reply) → (number ≡ 0 → x ≡ y) → unless_said refusal number list x ≡ unless_said refusal number list y
  unfolding unless_said
  said_as zero list x y f = f refl
  said_as (suc number) list x y f = refl

-- and by the number alone

pub unless_zero : (number : ℕ) (list : List ℕ) (accepted : Reply) → number ≡ 0 → unless number list accepted ≡ accepted
unless_zero = said_zero refused

pub unless_not : (number : ℕ) (list : List ℕ) (accepted : Reply) → number ≢ 0 → unless number list accepted ≡ reply (refused number) list
unless_not = said_not refused

pub unless_as : (number : ℕ) (list : List ℕ) (x y : Reply) → (number ≡ 0 → x ≡ y) → unless number list x ≡ unless number list y
unless_as = said_as refused

-- with a place or without
at_zero : (number place : ℕ) (b : Bool) → Under (cond b (refused_at number place) (refused number)) number
at_zero number place true = inr (place, refl)
at_zero number place false = inl refl

-- the number is the one given
pub refusal_under : (call : Call) (number : ℕ) → Under (refusal_to call number) number
refusal_under (start K) number = inl refl
refusal_under (feed pick visits) number = inl refl
refusal_under (load lifts) number = at_zero number (first_zero lifts) (eqb number 15)
refusal_under (mark name) number = inl refl
refusal_under (back name) number = inl refl
refusal_under (ask q) number = inl refl
