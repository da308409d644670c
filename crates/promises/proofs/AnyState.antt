-- The calls that only read, on any state whatever: what each may read of it, and what is true of the answers.
use mathlib.Core.Path.{◌≡◌, refl, sym, ap, ◌∙◌}
use mathlib.Core.Bool.{Bool, true, false, cond}
use mathlib.Core.Logic.{inl}
use mathlib.Core.List.{List, [], ◌∷◌}
use mathlib.Core.Option.{Option, some, none}
use Prim.Native.Nat.{ℕ, ◌+◌, ◌≤◌, ◌<◌}
use native.Mathlib.Omega.{arith}
use native.Mathlib.Decide.{ℕ_discrete}
use lib.Dec.{leb}
use lib.ListN.{length}
use lib.Seq.{get_or-take}
use borrow.Author.Tests.{leb-true}
use Rattle.words.specs.Definitions.{length_at, word}
use Rattle.layout.specs.Record.{record_of}
use Rattle.models.specs.Stores.{at}
use Rattle.models.specs.Iterator.{longest_of, is_ending, period_at}
use Rattle.models.proofs.Iterating.{ending_high}
use Rattle.models.specs.Answers.{shorter_by}
use Rattle.models.proofs.SplitCode.{split_alike, split_ends}
use Rattle.promises.specs.declared.Draft.{Draft}
use Rattle.promises.specs.Answers.{refused, Reply, reply}
use Rattle.promises.specs.Book.{Query, ask, split, longest, mask, radius, next, fold, lift, lent}
use Rattle.promises.specs.Replies.{unless, or_no_split, or_no_ending, or_too_long, gives, split_reply, record_reply, refusal_of}
use Rattle.promises.proofs.BookLaws.{unless_zero, unless_not}
use Rattle.promises.specs.Promises.{mask_byte, split_held, found_in, computed_to, Reads}
use Rattle.promises.specs.Demands.{Accepted, NextRight, NextHolds, EndsRight, SplitHolds, RecordRight, RecordHolds, LongestHolds}
use Rattle.promises.specs.Unread.{prefixes_to, rows_to, parts_for, state_from, reply_from, PartsHold, other_rows, SplitAlike}
use Rattle.promises.proofs.Keeping.{said_is}

-- an accepted call gives what is found
found : (d : Draft) (q : Query) (r : Reply) → Reads d q r → Accepted r.said → r ≡ found_in d q
unfolding computed_to
found d q r p ok = elim (ℕ_discrete (refusal_of d.numbers.n d.numbers.k (ask q)) 0) [
  | yes z ↦ p.computes ∙ unless_zero _ (lent (ask q)) _ z
  | no z ↦ absurd (ok _ (inl (said_is (p.computes ∙ unless_not _ (lent (ask q)) _ z))))
]

module _ (d : Draft) (c : ℕ) (r : Reply) (ok : Accepted r.said) where
  abbrev passes : Bool
  passes = is_ending d.centres.radius d.numbers.n (longest_of d.numbers.n d.numbers.longest.0) c

  next_fits : (b : Bool) → passes ≡ b → r.said ≡ or_no_ending (cond b (some (shorter_by d.centres.next d.numbers.n c)) none) → NextRight d.numbers.n c r.said
  next_fits false e q = absurd (ok 10 (inl q))
  next_fits true e q =
      let high = ending_high d.centres.radius d.numbers.n (longest_of d.numbers.n d.numbers.longest.0) c e in
      let x : ℕ = period_at d.centres.next c (length_at d.numbers.n c) in
      record {
        to = c + x;
        len = length_at d.numbers.n c;
        p = x;
        says = q;
        own = refl;
        period = record { low = omega arith; high = omega arith };
        less = omega arith;
        within = record { low = omega arith; high = omega arith };
      }

pub next_holds : NextHolds
unfolding found_in
next_holds d c r p ok = next_fits d c r ok (passes d c r ok) refl (said_is (found d (next c) r p ok))

pub split_holds : SplitHolds
unfolding found_in or_no_split
split_holds d i k before r p ok = go (split_held d k i) refl (found d (split i k before) r p ok)
  where
    go : (o : Option (List ℕ)) → split_held d k i ≡ o → r ≡ split_reply o before → EndsRight i k before r
    go none e q = absurd (ok 9 (inl (said_is q)))
    go (some ends) e q =
        let h = split_ends d.places.rows d.centres.radius d.numbers.n (longest_of d.numbers.n d.numbers.longest.0) k i ends e in
        record { ends = ends; count = h.0; rising = h.1; is = q }

pub record_holds : RecordHolds
unfolding found_in or_no_split or_too_long
record_holds d i k before r p ok = go (split_held d k i) refl (found d (fold i k before) r p ok)
  where
    w : ℕ → ℕ
    w = word d.letters

    fits : (ends : List ℕ) (b : Bool) → leb (length (record_of w i ends)) (length before) ≡ b → r ≡ or_too_long (record_of w i ends) before
        → split_held d k i ≡ some ends → RecordRight w i k before r
    fits ends false l q e = let x : r ≡ reply (refused 5) before = q ∙ simp l in absurd (ok 5 (inl (said_is x)))
    fits ends true l q e =
        let h = split_ends d.places.rows d.centres.radius d.numbers.n (longest_of d.numbers.n d.numbers.longest.0) k i ends e in
        record { ends = ends; count = h.0; rising = h.1; fits = leb-true _ _ l; is = q ∙ simp l }

    go : (o : Option (List ℕ)) → split_held d k i ≡ o → r ≡ record_reply w i o before → RecordRight w i k before r
    go none e q = absurd (ok 9 (inl (said_is q)))
    go (some ends) e q = fits ends (leb (length (record_of w i ends)) (length before)) refl q e

pub longest_holds : LongestHolds
unfolding found_in
longest_holds d r p ok = record {
  c = longest_of d.numbers.n d.numbers.longest.0;
  says = said_is (found d longest r p ok);
  within = record { low = omega arith; high = omega arith };
}

-- What each may read

-- other row words, alike below place i: the search reads no others
split_rows : (d : Draft) (rows : List ℕ) (k i : ℕ) → ((j : ℕ) → j < i → at d.places.rows j ≡ at rows j) → split_held d k i ≡ split_held (other_rows d rows) k i
split_rows d rows k i f = split_alike d.places.rows rows d.centres.radius d.numbers.n (longest_of d.numbers.n d.numbers.longest.0) k i f

row_to : (d : Draft) (i j : ℕ) → j ≤ i → at d.places.rows j ≡ at (rows_to i d) j
row_to d i j l = sym (get_or-take (prefixes_to i) d.places.rows j 0 (omega arith))

split_to : (d : Draft) (k i : ℕ) → split_held d k i ≡ split_held (other_rows d (rows_to i d)) k i
split_to d k i = split_rows d (rows_to i d) k i (λ j l. row_to d i j (omega arith))

found_from : (d : Draft) (q : Query) → found_in d q ≡ found_in (state_from d.numbers (parts_for d q)) q
unfolding found_in
found_from d (split i k list) = ap (λ o. split_reply o list) (split_to d k i)
found_from d longest = refl
found_from d (mask i) = ap (λ x. gives (mask_byte x ∷ [])) (row_to d i i (omega arith))
found_from d (radius c) = refl
found_from d (next c) = refl
found_from d (fold i k output) = ap (λ o. record_reply (word d.letters) i o output) (split_to d k i)
found_from d (lift letter) = refl

pub parts_hold : PartsHold
unfolding reply_from computed_to
parts_hold d q r p = p.computes ∙ ap (unless (refusal_of d.numbers.n d.numbers.k (ask q)) (lent (ask q))) (found_from d q)

pub split_same : SplitAlike
unfolding computed_to found_in
split_same d e i k before r s h p q =
    let number : ℕ = refusal_of d.numbers.n d.numbers.k (ask (split i k before)) in
    p.computes
    ∙ ap (λ o. unless number before (split_reply o before)) (split_rows d e.places.rows k i (λ j l. h.rows j (omega arith)))
    ∙ ap (λ x. computed_to x (split i k before)) (sym h.others)
    ∙ sym q.computes
