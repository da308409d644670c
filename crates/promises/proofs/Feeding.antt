-- What an accepted feed says, and what its list holds.
use mathlib.Core.Path.{◌≡◌, subst, ◌∙◌}
use mathlib.Core.Bool.{true, cond, ◌&&◌, and-eq-true_iff}
use mathlib.Core.Logic.{◌↔◌, inl}
use mathlib.Core.List.{List, [], ◌∷◌}
use Prim.Native.Nat.{ℕ, ◌<◌}
use lib.Dec.{leb, ltb}
use lib.ListN.{length}
use borrow.Author.Tests.{ltb-true}
use Rattle.words.proofs.Cases.{true_false}
use Rattle.words.specs.Definitions.{most_picks, most_visits, first_letter, last_letter}
use Rattle.promises.specs.declared.Draft.{Draft}
use Rattle.promises.specs.Answers.{gave, reply, feed_says, filled, Fed}
use Rattle.promises.specs.Refusals.{feed_refusal}
use Rattle.words.specs.Ranges.{between}
use Rattle.promises.specs.Book.{Book, fed_book, lent, feed_taken, write}
use Rattle.promises.specs.Replies.{unless, fed_reply, fed_mask, fed_visits, refusal_of, found_for, reply_to}
use Rattle.promises.proofs.BookLaws.{Case, taken, left, unless_zero, unless_not}
use Rattle.promises.specs.Holds.{Holds}
use Rattle.promises.proofs.WritingLaws.{feed_case}
use Rattle.promises.specs.Promises.{FeedPromise}
use Rattle.promises.specs.Demands.{Accepted}
use Rattle.promises.proofs.Keeping.{gave_accepted, said_is, list_is}

module _ {d : Draft} {b : Book} {pick : ℕ} {before : List ℕ} {r : Fed} {after : List ℕ} (h : Holds d b) (p : FeedPromise d pick before r after) where
  is : reply (feed_says r.answer) after
      ≡ unless (feed_refusal (length b.row) b.K pick (length before)) before (fed_reply (fed_mask b pick) (fed_visits b pick) before)
  unfolding reply_to refusal_of lent found_for
  is = (p.meaning b h).replies

  -- accepted exactly when the book takes it
  pub fed_accepted : Accepted (feed_says r.answer) ↔ (feed_taken b pick (length before) ≡ true)
  fed_accepted = go (feed_case h pick (length before))
    where
      go : Case (feed_taken b pick (length before)) (feed_refusal (length b.row) b.K pick (length before))
          → Accepted (feed_says r.answer) ↔ (feed_taken b pick (length before) ≡ true)
      go (taken t z) = (λ _. t, λ _. gave_accepted (said_is (is ∙ unless_zero _ before _ z)))
      go (left t z) = (λ ok. absurd (ok _ (inl (said_is (is ∙ unless_not _ before _ z)))), λ y. absurd (true_false y t))

  fed_reply_lem : Accepted (feed_says r.answer)
      → reply (feed_says r.answer) after ≡ fed_reply (fed_mask b pick) (fed_visits b pick) before
  fed_reply_lem ok = go (feed_case h pick (length before))
    where
      go : Case (feed_taken b pick (length before)) (feed_refusal (length b.row) b.K pick (length before))
          → reply (feed_says r.answer) after ≡ fed_reply (fed_mask b pick) (fed_visits b pick) before
      go (taken t z) = is ∙ unless_zero _ before _ z
      go (left t z) = absurd (ok _ (inl (said_is (is ∙ unless_not _ before _ z))))

  pub fed_said : Accepted (feed_says r.answer) → feed_says r.answer ≡ gave (fed_mask b pick ∷ length (fed_visits b pick) ∷ [])
  fed_said ok = said_is (fed_reply_lem ok)

  pub fed_list : Accepted (feed_says r.answer) → after ≡ filled (fed_visits b pick) before
  fed_list ok = list_is (fed_reply_lem ok)

  -- the state holds the row with the pick, and there was room for it
  pub fed_holds : Accepted (feed_says r.answer) → Holds r.state (fed_book b pick)
  unfolding write
  fed_holds ok =
      let t : feed_taken b pick (length before) ≡ true = fed_accepted.0 ok in
      subst (λ x. Holds r.state (cond x (fed_book b pick) b)) t (p.meaning b h).holds

  pub fed_room : Accepted (feed_says r.answer) → length b.row < most_picks
  fed_room ok =
      let t = (and-eq-true_iff (between first_letter last_letter pick) (leb most_visits (length before) && ltb (length b.row) most_picks)).0 (fed_accepted.0 ok) in
      ltb-true _ _ ((and-eq-true_iff (leb most_visits (length before)) (ltb (length b.row) most_picks)).0 t.1).1
