-- What a call's number 0 says of its arguments.
use Rattle.std.specs.Prelude.{◌≡◌, ◌≢◌, refl, Bool, true, false, ◌&&◌, List, ℕ, ◌+◌, ◌*◌, ◌≤◌, ◌<◌, eqb, leb, ltb, length}
use Rattle.std.proofs.Common.{arith, leb-true, ltb-true, le-leb, eqb-true}
use Rattle.std.proofs.Math.Bool.{decide, decide_iff, and-eq-true_iff}
use Rattle.words.specs.Definitions.{most_picks, most_sections, most_visits, first_letter, last_letter, From, Rising}
use Rattle.words.specs.Computed.{rising?}
use Rattle.words.specs.Ranges.{between, between_true}
use Rattle.promises.specs.Lifts.{table_size}
use Rattle.promises.specs.Refusals.{test, line3, line4, line6, line7, line8, line13, line14, line15, line16, start_refusal, feed_refusal, load_refusal, table_refusal, mask_refusal, centre_refusal, longest_refusal, split_refusal, record_refusal, letter_refusal, show_refusal}

test_zero : (t : Bool) (number after : ℕ) → 0 < number → test t number after ≡ 0 → (t ≡ true) × (after ≡ 0)
test_zero true number after l e = (refl, e)
test_zero false number after l e = absurd (omega arith)

-- 7 passed
pub record Passed (n K : ℕ) : Type 0 where
  pub picks : n ≤ most_picks
  pub least : 1 ≤ K
  pub most : K ≤ most_sections

passed : (n K after : ℕ) → line7 n K after ≡ 0 → Passed n K × (after ≡ 0)
passed n K after e =
    let a = test_zero _ 7 after (omega arith) e in
    let b = (and-eq-true_iff (leb n most_picks) (between 1 most_sections K)).0 a.0 in
    let c = between_true 1 most_sections K b.1 in
    (record { picks = leb-true n most_picks b.0; least = c.low; most = c.high }, a.1)

pub start_fits : (K : ℕ) → start_refusal K ≡ 0 → (1 ≤ K) × (K ≤ most_sections)
unfolding start_refusal
start_fits K e = let c = between_true 1 most_sections K (test_zero _ 1 0 (omega arith) e).0 in (c.low, c.high)

pub record FeedFits (n K pick entries : ℕ) : Type 0 where
  pub state : Passed n K
  pub letter : From first_letter last_letter pick
  pub room : n < most_picks
  pub enough : most_visits ≤ entries

pub feed_fits : (n K pick entries : ℕ) → feed_refusal n K pick entries ≡ 0 → FeedFits n K pick entries
unfolding feed_refusal
feed_fits n K pick entries e =
    let a = passed n K _ e in
    let b = test_zero (between first_letter last_letter pick) 2 (line3 entries (line8 n 0)) (omega arith) a.1 in
    let c = test_zero (leb most_visits entries) 3 (line8 n 0) (omega arith) b.1 in
    let f = test_zero (ltb n most_picks) 8 0 (omega arith) c.1 in
    record { state = a.0; letter = between_true first_letter last_letter pick b.0; room = ltb-true _ _ f.0; enough = leb-true _ _ c.0 }

pub mask_fits : (n K i : ℕ) → mask_refusal n K i ≡ 0 → i ≤ n
unfolding mask_refusal
mask_fits n K i e = (between_true 0 n i (test_zero _ 4 0 (omega arith) (passed n K _ e).1).0).high

pub centre_fits : (n K c : ℕ) → centre_refusal n K c ≡ 0 → (1 ≤ c) × (c ≤ 2 * n + 1)
unfolding centre_refusal
centre_fits n K c e = let b = between_true 1 (2 * n + 1) c (test_zero _ 4 0 (omega arith) (passed n K _ e).1).0 in (b.low, b.high)

pub centre_passed : (n K c : ℕ) → centre_refusal n K c ≡ 0 → Passed n K
unfolding centre_refusal
centre_passed n K c e = (passed n K _ e).0

pub longest_passed : (n K : ℕ) → longest_refusal n K ≡ 0 → Passed n K
unfolding longest_refusal
longest_passed n K e = (passed n K _ e).0

pub letter_passed : (n K letter : ℕ) → letter_refusal n K letter ≡ 0 → Passed n K
unfolding letter_refusal
letter_passed n K letter e = (passed n K _ e).0

pub show_fits : (letters ends : List ℕ) (s : ℕ) → show_refusal letters ends s ≡ 0 → (1 ≤ s) × (s ≤ length ends) × Rising (length letters) 0 ends
unfolding show_refusal
show_fits letters ends s e =
    let a = test_zero (between 1 (length ends) s) 4 (line6 letters ends 0) (omega arith) e in
    let b = between_true 1 (length ends) s a.0 in
    (b.low, b.high, (decide_iff (rising? (length letters) 0 ends)).0 (test_zero (decide (rising? (length letters) 0 ends)) 6 0 (omega arith) a.1).0)

pub record SplitFits (n K i k : ℕ) : Type 0 where
  pub state : Passed n K
  pub least : 1 ≤ k
  pub most : k ≤ K
  pub prefix : i ≤ n

pub record_fits : (n K i k : ℕ) → record_refusal n K i k ≡ 0 → SplitFits n K i k
unfolding record_refusal
record_fits n K i k e =
    let a = passed n K _ e in
    let b = test_zero (between 1 K k) 1 (line4 0 n i 0) (omega arith) a.1 in
    let c = between_true 1 K k b.0 in
    record { state = a.0; least = c.low; most = c.high; prefix = (between_true 0 n i (test_zero _ 4 0 (omega arith) b.1).0).high }

pub split_fits : (n K i k entries : ℕ) → split_refusal n K i k entries ≡ 0 → SplitFits n K i k × (k ≤ entries)
unfolding split_refusal
split_fits n K i k entries e =
    let a = passed n K _ e in
    let b = test_zero (between 1 K k) 1 (line13 k entries (line4 0 n i 0)) (omega arith) a.1 in
    let c = between_true 1 K k b.0 in
    let f = test_zero (leb k entries) 13 (line4 0 n i 0) (omega arith) b.1 in (
      record { state = a.0; least = c.low; most = c.high; prefix = (between_true 0 n i (test_zero _ 4 0 (omega arith) f.1).0).high },
      leb-true _ _ f.0,
    )

-- a record's tests are the split's, on a list that is long enough
pub record_as_split : (n K i k : ℕ) → split_refusal n K i k k ≡ record_refusal n K i k
unfolding split_refusal record_refusal
record_as_split n K i k = simp (le-leb k k (omega arith))

pub table_fits : (n K bytes : ℕ) → table_refusal n K bytes ≡ 0 → bytes ≡ table_size
unfolding table_refusal
table_fits n K bytes e = eqb-true bytes table_size (test_zero (eqb bytes table_size) 14 0 (omega arith) (passed n K _ e).1).0

-- A load: 7 and 14; then 15, which has a place, and 16

two_first : (s t : Bool) (x y after : ℕ) → test s x (test t y 0) ≢ 0 → test s x (test t y after) ≡ test s x (test t y 0)
two_first true true x y after f = absurd (f refl)
two_first true false x y after f = refl
two_first false t x y after f = refl

pub load_first : (n K : ℕ) (lifts : List ℕ) → table_refusal n K (length lifts) ≢ 0 → load_refusal n K lifts ≡ table_refusal n K (length lifts)
unfolding load_refusal table_refusal
load_first n K lifts f = two_first (leb n most_picks && between 1 most_sections K) (eqb (length lifts) table_size) 7 14 _ f

pub load_then : (n K : ℕ) (lifts : List ℕ) → table_refusal n K (length lifts) ≡ 0 → load_refusal n K lifts ≡ line15 lifts (line16 n 0)
unfolding load_refusal table_refusal
load_then n K lifts e =
    let a = test_zero (leb n most_picks && between 1 most_sections K) 7 (line14 (length lifts) 0) (omega arith) e in
    let b = test_zero (eqb (length lifts) table_size) 14 0 (omega arith) a.1 in rw (a.0, b.0) refl

-- neither the number before nor the one behind is 15

one_plain : (t : Bool) (x : ℕ) → x ≢ 15 → test t x 0 ≢ 15
one_plain true x f e = omega (arith, e)
one_plain false x f e = f e

pub table_plain : (n K bytes : ℕ) → table_refusal n K bytes ≢ 15
unfolding table_refusal
table_plain n K bytes = elim (leb n most_picks && between 1 most_sections K) as (λ t. test t 7 (line14 bytes 0) ≢ 15) [
  | true ↦ one_plain (eqb bytes table_size) 14 (λ e. omega (arith, e))
  | false ↦ λ e. omega (arith, e)
]

pub begun_plain : (n : ℕ) → line16 n 0 ≢ 15
begun_plain n = one_plain (eqb n 0) 16 (λ e. omega (arith, e))
