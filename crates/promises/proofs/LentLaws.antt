-- How the calls on lent parts meet their promises: refused under their number, or accepted with what was read.
use Rattle.std.specs.Prelude.{◌≡◌, refl, Bool, true, false, List, [], ◌∷◌, ℕ, ◌≤◌, ◌<◌, ◌≢◌, Result, Ok, Err, IsErrAnd, length, take}
use Rattle.std.proofs.Math.Path.{sym, ap, ap₂}
use Rattle.std.proofs.Common.{subst, ◌∙◌, true≢false, arith, take_at, ne_eqb}
use Rattle.std.proofs.lemmas.Bool.{false≢true}
use Rattle.std.proofs.Math.Option.{Option, some, none}
use Rattle.cells.specs.declared.Numbers.{Numbers}
use Rattle.words.specs.Definitions.{word, turn_count}
use Rattle.models.proofs.Stores.{sets_front}
use Rattle.models.specs.Iterator.{longest_of}
use Rattle.models.specs.Splitting.{split_by}
use Rattle.models.specs.SplitCode.{Stores}
use Rattle.models.proofs.SplitCode.{split_ends}
use Rattle.promises.specs.declared.Draft.{Draft}
use Rattle.promises.specs.declared.refusal.Refusal.{Refusal}
use Rattle.promises.specs.declared.refusal.Refusal.TheVariants.{ZeroLift}
use Rattle.promises.specs.Answers.{gave, refused, refused_at, Reply, reply, filled, says, refusal_says, outcome}
use Rattle.promises.specs.Refusals.{line15, line16, load_refusal, table_refusal}
use Rattle.layout.specs.Record.{record_of}
use Rattle.promises.specs.Lifts.{none_zero, first_zero}
use Rattle.promises.specs.Book.{load, Query, ask, split, fold, lent}
use Rattle.promises.specs.Replies.{or_no_split, or_too_long, split_reply, record_reply, refusal_of, refusal_to}
use Rattle.promises.specs.State.{with_lifts}
use Rattle.promises.specs.Promises.{split_held, found_in, computed_to, LoadPromise}
use Rattle.promises.specs.Lent.{answered_as, LoadsOn, ReadsOn}
use Rattle.promises.proofs.LiftLaws.{zero_within, zero_behind}
use Rattle.promises.proofs.RefusalLaws.{load_first, load_then, table_plain, begun_plain}
use Rattle.promises.proofs.Outcomes.{handed_on, outcome_zero, outcome_some, outcome_said, refused_by, accepted_by}
use Rattle.promises.proofs.WritingLaws.{load_refused, load_taken_lem}
use Rattle.promises.proofs.ReadingLaws.{reads}

-- Any query

module _ (held : Numbers) (Has : Draft → Type 0) (q : Query) where
  outcome_on : (d : Draft) → d.numbers ≡ held → outcome (refusal_of held.n held.k (ask q)) ≡ outcome (refusal_of d.numbers.n d.numbers.k (ask q))
  outcome_on d h = ap (λ x. outcome (refusal_of x.n x.k (ask q))) (sym h)

  refusal_on : (r : Refusal) → refusal_says r ≡ outcome (refusal_of held.n held.k (ask q)) → ReadsOn held Has q (reply (refusal_says r) (lent (ask q)))
  unfolding computed_to
  refusal_on r e d h p = reads d q _ (refused_by r _ (e ∙ outcome_on d h) (lent (ask q)) _)

  -- an answer by ? that hands the refusal on
  pub refused_on : {A : Type 0} (values : A → List ℕ) (answer : Result A Refusal) (r : Refusal) → IsErrAnd answer (λ x. x ≡ r)
      → refusal_says r ≡ outcome (refusal_of held.n held.k (ask q)) → ReadsOn held Has q (reply (says values answer) (lent (ask q)))
  refused_on values answer r h e = rw (handed_on answer r h) (refusal_on r e)

  pub given_on : gave [] ≡ outcome (refusal_of held.n held.k (ask q)) → (r : Reply)
      → ((d : Draft) → d.numbers ≡ held → Has d → r ≡ found_in d q) → ReadsOn held Has q r
  unfolding computed_to
  given_on e r f d h p = reads d q r (f d h p ∙ accepted_by _ (e ∙ outcome_on d h) (lent (ask q)) _)

-- What split and record find in their parts

module _ (held : Numbers) (d : Draft) (h : d.numbers ≡ held) where
  -- the search, on every state with these parts
  search_in : (rows R : List ℕ) (k i : ℕ) → d.places.rows ≡ rows → d.centres.radius ≡ R
      → split_by rows R held.n (longest_of held.n held.longest.0) k i ≡ split_held d k i
  search_in rows R k i p q = rw (← h, ← p, ← q)

  pub split_in_lem : (rows R : List ℕ) (i k : ℕ) (list : List ℕ) (r : Reply) → d.places.rows ≡ rows → d.centres.radius ≡ R
      → r ≡ split_reply (split_by rows R held.n (longest_of held.n held.longest.0) k i) list
      → r ≡ found_in d (split i k list)
  unfolding found_in
  split_in_lem rows R i k list r p q e = e ∙ ap (λ o. split_reply o list) (search_in rows R k i p q)

  pub record_in : (letters rows R : List ℕ) (i k : ℕ) (output : List ℕ) (r : Reply) → d.letters ≡ letters → d.places.rows ≡ rows → d.centres.radius ≡ R
      → r ≡ record_reply (word letters) i (split_by rows R held.n (longest_of held.n held.longest.0) k i) output
      → r ≡ found_in d (fold i k output)
  unfolding found_in
  record_in letters rows R i k output r p q t e =
      e ∙ ap (λ l. record_reply (word l) i (split_by rows R held.n (longest_of held.n held.longest.0) k i) output) (sym p)
      ∙ ap (λ o. record_reply (word d.letters) i o output) (search_in rows R k i q t)

-- What the search told and stored

module _ (rows R : List ℕ) (n s k i : ℕ) (before : List ℕ) (b : Bool) (after : List ℕ) (h : Stores (split_by rows R n s k i) before b after) where
  -- no split
  none_found : b ≡ false → (split_by rows R n s k i ≡ none) × (after ≡ before)
  none_found t = go (split_by rows R n s k i) (rw t at h)
    where
      go : (o : Option (List ℕ)) → Stores o before false after → (o ≡ none) × (after ≡ before)
      go none g = (refl, g.list)
      go (some ends) g = absurd (false≢true g.tells)

  -- a split, its ends in front of the list
  record Ends : Type 0 where
    ends : List ℕ
    is : split_by rows R n s k i ≡ some ends
    list : after ≡ filled ends before
    front : take k after ≡ ends

  ends_found : b ≡ true → k ≤ length before → Ends
  ends_found t room = go (split_by rows R n s k i) refl (rw t at h)
    where
      go : (o : Option (List ℕ)) → split_by rows R n s k i ≡ o → Stores o before true after → Ends
      go none e g = absurd (true≢false g.tells)
      go (some ends) e g =
          let c : length ends ≡ k = (split_ends rows R n s k i ends e).0 in
          let l : after ≡ filled ends before = g.list ∙ sets_front ends before (omega (arith, c)) in
          record { ends = ends; is = e; list = l; front = ap (take k) l ∙ take_at ends _ k c }

  pub split_lacking : b ≡ false → reply (refused 9) after ≡ split_reply (split_by rows R n s k i) before
  unfolding or_no_split
  split_lacking t = let f = none_found t in ap (reply (refused 9)) f.1 ∙ sym (ap (λ o. split_reply o before) f.0)

  pub record_lacking : (w : ℕ → ℕ) (output : List ℕ) → b ≡ false → reply (refused 9) output ≡ record_reply w i (split_by rows R n s k i) output
  unfolding or_no_split
  record_lacking w output t = sym (ap (λ o. record_reply w i o output) (none_found t).0)

  -- part is what was stored of the ends: the first k entries of a list of k or more
  module _ (part : List ℕ) (p : part ≡ take k after) (t : b ≡ true) (room : k ≤ length before) where
    pub split_given : (turns : ℕ) → turns ≡ turn_count part → reply (gave (turns ∷ [])) after ≡ split_reply (split_by rows R n s k i) before
    unfolding or_no_split
    split_given turns q =
        let f = ends_found t room in
        ap₂ (λ x list. reply (gave (x ∷ [])) list) (q ∙ ap turn_count (p ∙ f.front)) f.list ∙ sym (ap (λ o. split_reply o before) f.is)

    pub record_given : (w : ℕ → ℕ) (output : List ℕ) (r : Reply) → r ≡ or_too_long (record_of w i part) output
        → r ≡ record_reply w i (split_by rows R n s k i) output
    unfolding or_no_split
    record_given w output r q =
        let f = ends_found t room in
        q ∙ ap (λ x. or_too_long (record_of w i x) output) (p ∙ f.front) ∙ sym (ap (λ o. record_reply w i o output) f.is)

-- Load: 7 and 14, then the place of the first lift of 0, then 16

-- a number that is not 15 has no place
plain_number : (lifts : List ℕ) (number : ℕ) → (number ≡ 15 → ⊥) → refused number ≡ refusal_to (load lifts) number
plain_number lifts number f = simp (ne_eqb number 15 f)

module _ (held : Numbers) (before lifts : List ℕ) where
  abbrev table : ℕ
  table = table_refusal held.n held.k (length lifts)

  abbrev all : ℕ
  all = load_refusal held.n held.k lifts

  all_of : (d : Draft) → d.numbers ≡ held → all ≡ load_refusal d.numbers.n d.numbers.k lifts
  all_of d h = ap (λ x. load_refusal x.n x.k lifts) (sym h)

  -- refused under its number, what is lent is as it was
  refused_under : (r : Refusal) → refusal_says r ≡ refusal_to (load lifts) all → all ≢ 0 → LoadsOn held before lifts (Err r) before
  refused_under r s f d h p =
      subst (λ l. LoadPromise d lifts (answered_as (Err r) (with_lifts d l))) p
      (load_refused d lifts r (s ∙ ap (refusal_to (load lifts)) (all_of d h)) (λ z. f (all_of d h ∙ z)))

  -- a number that is not 15 has no place
  refused_plain : (r : Refusal) (number : ℕ) → refusal_says r ≡ outcome number → all ≡ number → (number ≡ 15 → ⊥) → LoadsOn held before lifts (Err r) before
  refused_plain r number e q f =
      refused_under r (outcome_said r _ e ∙ plain_number lifts number f ∙ ap (refusal_to (load lifts)) (sym q)) (λ z. outcome_some r _ e (sym q ∙ z))

  pub table_refused : (r : Refusal) → refusal_says r ≡ outcome table → LoadsOn held before lifts (Err r) before
  table_refused r e =
      refused_plain r table e (load_first held.n held.k lifts (outcome_some r _ e)) (table_plain held.n held.k (length lifts))

  module _ (clear : gave [] ≡ outcome table) (place : ℕ) (z : place ≡ first_zero lifts) where
    others : all ≡ line15 lifts (line16 held.n 0)
    others = load_then held.n held.k lifts (outcome_zero table clear)

    pub zero_refused : place < length lifts → LoadsOn held before lifts (Err (ZeroLift place)) before
    zero_refused l =
        let b : none_zero lifts ≡ false = zero_within lifts (omega (arith, z)) in
        let q : all ≡ 15 = others ∙ rw b refl in
        refused_under (ZeroLift place) (ap (refused_at 15) z ∙ ap (refusal_to (load lifts)) (sym q)) (λ t. omega (arith, q, t))

    module _ (behind : length lifts ≤ place) where
      last : all ≡ line16 held.n 0
      last = let b : none_zero lifts ≡ true = zero_behind lifts (omega (arith, z)) in others ∙ rw b refl

      pub begun_refused : (r : Refusal) → refusal_says r ≡ outcome (line16 held.n 0) → LoadsOn held before lifts (Err r) before
      begun_refused r e = refused_plain r (line16 held.n 0) e last (begun_plain held.n)

      -- stored over the table that was
      pub table_taken : gave [] ≡ outcome (line16 held.n 0) → (after : List ℕ) → after ≡ lifts → LoadsOn held before lifts (Ok tt) after
      table_taken e after q d h p = rw q (load_taken_lem d lifts (sym (all_of d h) ∙ last ∙ outcome_zero (line16 held.n 0) e))
