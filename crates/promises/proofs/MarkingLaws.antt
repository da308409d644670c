-- How mark and back meet their promises.
use Rattle.std.specs.Prelude.{◌≡◌, refl, Bool, cond, ◌&&◌, ◌≢◌, Ok, Err, List, [], length, set}
use Rattle.std.proofs.Math.Path.{sym, ap}
use Rattle.std.proofs.Common.{inl, inr, subst, ◌∙◌}
use Rattle.std.proofs.Math.Bool.{true, false}
use Prim.Native.Nat.{ℕ, suc, ◌+◌, ◌-◌}
use native.Mathlib.Omega.{arith}
use Rattle.std.proofs.Math.ListN.{get_or}
use Rattle.words.proofs.Cases.{clash}
use Rattle.words.specs.Definitions.{first_letter, last_letter}
use Rattle.words.specs.Ranges.{between}
use Rattle.cells.specs.declared.Numbers.{Numbers}
use Rattle.promises.specs.declared.Draft.{Draft}
use Rattle.promises.specs.declared.refusal.Refusal.{Refusal}
use Rattle.promises.specs.declared.refusal.Refusal.TheVariants.{NoMark, FifthName}
use Rattle.promises.specs.Answers.{gave, refused, reply, refusal_says, outcome}
use Rattle.promises.specs.Refusals.{letter_refusal}
use Rattle.promises.specs.Marks.{mark_at, is_mark, mark_length, room_for, marks_in}
use Rattle.promises.proofs.MarkLaws.{mark_none, mark_some, entries_set}
use Rattle.promises.specs.Book.{Book, Call, mark, back, lent, marked_book, back_book, write}
use Rattle.promises.specs.Replies.{unless, or_refused, refusal_of, found_for, reply_to}
use Rattle.promises.proofs.BookLaws.{Case, taken, left, letter_cases}
use Rattle.promises.proofs.Outcomes.{refusal_some, outcome_zero, outcome_some, refused_by, accepted_by}
use Rattle.promises.specs.State.{with_marks, marks_of, with_mark, cut_to}
use Rattle.promises.specs.Lent.{answered_as, MarksOn}
use Rattle.promises.specs.Holds.{Holds}
use Rattle.promises.proofs.WritingLaws.{held_fits}
use Rattle.promises.proofs.BackLaws.{held_marks, cut_holds}
use Rattle.promises.specs.Promises.{Marking, MarkPromise, BackPromise}

-- How a call goes on a book that the state holds: t is what the marks say, x the number where they say no; next and after are state and
-- book where they say yes
pub record Goes (d : Draft) (b : Book) (call : Call) (t : Bool) (x : ℕ) (next : Draft) (after : Book) : Type 0 where
  pub replies : reply_to b call ≡ unless (refusal_of d.numbers.n d.numbers.k call) [] (reply (or_refused t x) [])
  pub left : refusal_of d.numbers.n d.numbers.k call ≢ 0 → write b call ≡ b
  pub lacks : t ≡ false → write b call ≡ b
  pub takes : refusal_of d.numbers.n d.numbers.k call ≡ 0 → t ≡ true → write b call ≡ after
  pub holds : Holds next after

module _ (d : Draft) (call : Call) (t : Bool) (x : ℕ) (next : Draft) (after : Book → Book)
    (goes : (b : Book) → Holds d b → Goes d b call t x next (after b)) where
  pub marking_refused : (r : Refusal) → refusal_says r ≡ outcome (refusal_of d.numbers.n d.numbers.k call) → Marking d call (or_refused t x) next (answered_as (Err r) d)
  marking_refused r e = record {
    meaning = λ b h. record { replies = is ∙ sym (goes b h).replies; holds = subst (Holds d) (sym ((goes b h).left (outcome_some r _ e))) h };
    computes = is;
    refuses = λ _ _. refl;
    stores = λ q. absurd (refusal_some r q);
  }
    where
      is : reply (refusal_says r) [] ≡ unless (refusal_of d.numbers.n d.numbers.k call) [] (reply (or_refused t x) [])
      is = refused_by r _ e [] _

  module _ (e : gave [] ≡ outcome (refusal_of d.numbers.n d.numbers.k call)) where
    found : (b : Bool) → t ≡ b → reply (or_refused b x) [] ≡ unless (refusal_of d.numbers.n d.numbers.k call) [] (reply (or_refused t x) [])
    found b q = ap (λ y. reply (or_refused y x) []) (sym q) ∙ accepted_by _ e [] _

    -- the refusal is that of the number
    pub marking_lacking : (r : Refusal) → refusal_says r ≡ refused x → t ≡ false → Marking d call (or_refused t x) next (answered_as (Err r) d)
    marking_lacking r s q = record {
      meaning = λ b h. record { replies = is ∙ sym (goes b h).replies; holds = subst (Holds d) (sym ((goes b h).lacks q)) h };
      computes = is;
      refuses = λ _ _. refl;
      stores = λ z. absurd (refusal_some r z);
    }
      where
        is : reply (refusal_says r) [] ≡ unless (refusal_of d.numbers.n d.numbers.k call) [] (reply (or_refused t x) [])
        is = ap (λ y. reply y []) s ∙ found false q

    pub marking_done : t ≡ true → Marking d call (or_refused t x) next (answered_as (Ok tt) next)
    marking_done q = record {
      meaning = λ b h. record { replies = found true q ∙ sym (goes b h).replies; holds = subst (Holds next) (sym ((goes b h).takes (outcome_zero _ e) q)) (goes b h).holds };
      computes = found true q;
      refuses = λ _ z. elim z [ inl q ↦ clash cc | inr q ↦ let s = q.1 in clash cc ];
      stores = λ _. refl;
    }

-- Mark, and back

module _ {d : Draft} {b : Book} (h : Holds d b) (name : ℕ) where
  letter_number : letter_refusal d.numbers.n d.numbers.k name ≡ letter_refusal (length b.row) b.K name
  letter_number = rw (h.picks, h.sections)

  pub letter_case : Case (between first_letter last_letter name) (letter_refusal (length b.row) b.K name)
  letter_case = letter_cases b name (held_fits h) h.least h.most

  -- the name is A to Z where the number is 0, and only there
  no_letter_lem : letter_refusal d.numbers.n d.numbers.k name ≢ 0 → between first_letter last_letter name ≡ false
  no_letter_lem f = go letter_case
    where
      go : Case (between first_letter last_letter name) (letter_refusal (length b.row) b.K name) → between first_letter last_letter name ≡ false
      go (taken t z) = absurd (f (letter_number ∙ z))
      go (left t z) = t

  a_letter : letter_refusal d.numbers.n d.numbers.k name ≡ 0 → between first_letter last_letter name ≡ true
  a_letter e = go letter_case
    where
      go : Case (between first_letter last_letter name) (letter_refusal (length b.row) b.K name) → between first_letter last_letter name ≡ true
      go (taken t z) = t
      go (left t z) = absurd (z (sym letter_number ∙ e))

  not_taken : (s : Bool) (x : Book) → cond (s && false) x b ≡ b
  not_taken true x = refl
  not_taken false x = refl

  mark_holds : Holds (with_mark d name) (marked_book b name)
  mark_holds = record {
    least = h.least;
    most = h.most;
    sections = h.sections;
    picks = h.picks;
    lifts = h.lifts;
    marks = rw (held_marks h, h.picks);
    room = h.room;
    letters = h.letters;
    arrays = h.arrays;
  }

  pub mark_goes : Goes d b (mark name) (room_for (marks_of d) name) 18 (with_mark d name) (marked_book b name)
  unfolding reply_to refusal_of lent found_for write
  mark_goes = record {
    replies = rw (letter_number, held_marks h);
    left = λ f. rw (no_letter_lem f);
    lacks = λ q. let t : room_for b.marks name ≡ false = rw (held_marks h) at q in
        rw t (not_taken (between first_letter last_letter name) (marked_book b name));
    takes = λ z q. let t : room_for b.marks name ≡ true = rw (held_marks h) at q in rw (a_letter z, t);
    holds = mark_holds;
  }

  pub back_goes : Goes d b (back name) (is_mark (mark_at (marks_of d) name)) 17 (cut_to d (mark_length (mark_at (marks_of d) name))) (back_book b name)
  unfolding reply_to refusal_of lent found_for write
  back_goes = record {
    replies = rw (letter_number, held_marks h);
    left = λ f. rw (no_letter_lem f);
    lacks = λ q. let t : is_mark (mark_at b.marks name) ≡ false = rw (held_marks h) at q in
        rw t (not_taken (between first_letter last_letter name) (back_book b name));
    takes = λ z q. let t : is_mark (mark_at b.marks name) ≡ true = rw (held_marks h) at q in rw (a_letter z, t);
    holds = rw (held_marks h) (cut_holds h (mark_length (mark_at b.marks name)));
  }

-- In the code: the entry of the name, which is 0 where it is no mark

module _ (d : Draft) (name : ℕ) where
  module _ (r : Refusal) (e : refusal_says r ≡ outcome (letter_refusal d.numbers.n d.numbers.k name)) where
    pub mark_refused : MarkPromise d name (answered_as (Err r) d)
    unfolding refusal_of
    mark_refused = marking_refused d (mark name) _ 18 _ _ (λ b h. mark_goes h name) r e

    pub back_refused : BackPromise d name (answered_as (Err r) d)
    unfolding refusal_of
    back_refused = marking_refused d (back name) _ 17 _ _ (λ b h. back_goes h name) r e

  module _ (e : gave [] ≡ outcome (letter_refusal d.numbers.n d.numbers.k name)) where
    pub mark_lacking : room_for (marks_of d) name ≡ false → MarkPromise d name (answered_as (Err FifthName) d)
    unfolding refusal_of
    mark_lacking q = marking_lacking d (mark name) _ 18 _ _ (λ b h. mark_goes h name) e FifthName refl q

    pub mark_done : room_for (marks_of d) name ≡ true → (after : List ℕ) → after ≡ set d.marks (name - first_letter) (d.numbers.n + 1)
        → MarkPromise d name (answered_as (Ok tt) (with_marks d after))
    unfolding refusal_of
    mark_done q after s =
        let f : d.numbers.n + 1 ≡ suc d.numbers.n = omega arith in
        rw (s, f, entries_set d.marks (name - first_letter) d.numbers.n) (marking_done d (mark name) _ 18 _ _ (λ b h. mark_goes h name) e q)

    module _ (entry : ℕ) (q : entry ≡ get_or d.marks (name - first_letter) 0) where
      pub back_lacking : entry ≡ 0 → BackPromise d name (answered_as (Err NoMark) d)
      unfolding refusal_of
      back_lacking z =
          marking_lacking d (back name) _ 17 _ _ (λ b h. back_goes h name) e NoMark refl
          (ap is_mark (mark_none d.marks (name - first_letter) (sym q ∙ z)))

      pub back_done : (entry ≡ 0 → ⊥) → (state : Draft) → state ≡ cut_to d (entry - 1) → BackPromise d name (answered_as (Ok tt) state)
      unfolding refusal_of
      back_done f state s =
          let z : get_or d.marks (name - first_letter) 0 ≡ suc (entry - 1) = sym q ∙ omega (arith, f) in
          let m = mark_some d.marks (name - first_letter) (entry - 1) z in
          rw (s, ← ap mark_length m) (marking_done d (back name) _ 17 _ _ (λ b h. back_goes h name) e (ap is_mark m))

-- A mark on the lent marks: on every state of these numbers that has them
module _ (held : Numbers) (before : List ℕ) (name : ℕ) where
  outcome_of : (d : Draft) → d.numbers ≡ held → outcome (letter_refusal held.n held.k name) ≡ outcome (letter_refusal d.numbers.n d.numbers.k name)
  outcome_of d h = ap (λ x. outcome (letter_refusal x.n x.k name)) (sym h)

  pub mark_refused_on : (r : Refusal) → refusal_says r ≡ outcome (letter_refusal held.n held.k name) → MarksOn held before name (Err r) before
  mark_refused_on r e d h p =
      subst (λ m. MarkPromise d name (answered_as (Err r) (with_marks d m))) p (mark_refused d name r (e ∙ outcome_of d h))

  module _ (e : gave [] ≡ outcome (letter_refusal held.n held.k name)) (t : Bool) (q : t ≡ room_for (marks_in before) name) where
    pub mark_lacking_on : t ≡ false → MarksOn held before name (Err FifthName) before
    mark_lacking_on f d h p =
        subst (λ m. MarkPromise d name (answered_as (Err FifthName) (with_marks d m))) p
        (mark_lacking d name (e ∙ outcome_of d h) (ap (λ m. room_for (marks_in m) name) p ∙ sym q ∙ f))

    pub mark_done_on : t ≡ true → (after : List ℕ) → after ≡ set before (name - first_letter) (held.n + 1) → MarksOn held before name (Ok tt) after
    mark_done_on f after s d h p =
        mark_done d name (e ∙ outcome_of d h) (ap (λ m. room_for (marks_in m) name) p ∙ sym q ∙ f) after
        (s ∙ ap (λ m. set m (name - first_letter) (held.n + 1)) (sym p) ∙ ap (λ x. set d.marks (name - first_letter) (x.n + 1)) (sym h))
