-- How a call meets its promise: from what it computes on any state, its meaning on a state that holds what stands in the book.
use Rattle.std.specs.Prelude.{◌≡◌, ◌≢◌, Ok, Err, ℕ, suc, ◌+◌, ◌/◌, ◌^◌, ◌≤◌, ◌<◌, length, drop, set, replicate}
use Rattle.std.proofs.Math.Path.{refl, sym, ap}
use Rattle.std.proofs.Common.{subst, ◌∙◌, arith, pow_mono, length-append, length-set, get_or-set_same, get_or-set_other}
use mathlib.Core.List.{List, [], ◌∷◌, ◌++◌}
use Rattle.std.proofs.Math.Decide.{dec_lt}
use Rattle.std.proofs.lemmas.List.{length-replicate}
use Rattle.std.proofs.Math.ListN.{get_or-append}
use Rattle.std.proofs.Math.Seq.{get_or-append_seam}
use Rattle.cells.specs.declared.Centres.{Centres}
use Rattle.cells.specs.declared.Places.{Places}
use Rattle.words.specs.Definitions.{most_picks, most_sections, word}
use Rattle.words.specs.Computed.{mask as mask_of}
use Rattle.words.proofs.Laws.{row_lt}
use Rattle.words.specs.Prefixes.{Agree}
use Rattle.models.specs.Core.{Arrays, After, append, Appends, Means}
use Rattle.models.proofs.Core.{append_arrays, means, held_none}
use Rattle.models.specs.Core.{Holds as ArraysHold}
use Rattle.promises.specs.declared.Draft.{Draft}
use Rattle.promises.specs.declared.FeedAnswer.TheVariants.{Taken, Refused}
use Rattle.promises.specs.declared.refusal.Refusal.{Refusal}
use Rattle.promises.specs.Answers.{gave, refused, reply, filled, number_of, refusal_says, outcome, Changed}
use Rattle.promises.specs.Refusals.{start_refusal, feed_refusal, load_refusal}
use Rattle.promises.specs.Lifts.{fixed_lifts, lift_in, lifted_by}
use Rattle.promises.specs.Marks.{Marks, no_marks, entries}
use Rattle.promises.specs.Book.{Book, book, started_book, fed_book, feed, load, lent, lifted, fed_lifted, feed_taken, load_taken, write}
use Rattle.promises.specs.Replies.{fed_mask, fed_visits, refusal_of, refusal_to, found_for, reply_to}
use Rattle.promises.proofs.LiftLaws.{lifted_length, lifted_more}
use Rattle.promises.proofs.RefusalLaws.{start_fits, FeedFits, feed_fits}
use Rattle.promises.proofs.BookLaws.{Case, taken, left, feed_cases, load_cases, empty_taken, said_zero, said_not, unless_zero, unless_not}
use Rattle.promises.proofs.Outcomes.{outcome_zero, outcome_some, outcome_number, refused_by, accepted_by}
use Rattle.promises.specs.State.{draft_in, empty_under, fresh, arrays_of, state_with, with_lifts, code_in, with_pick}
use Rattle.promises.specs.Lent.{answered_as}
use Rattle.promises.specs.Holds.{Holds}
use Rattle.promises.specs.Promises.{mask_byte, Writes, StartPromise, FeedPromise, LoadPromise}

-- on a state that holds what stands in the book
module _ {d : Draft} {b : Book} (h : Holds d b) where
  pub held_fits : length b.row ≤ most_picks
  held_fits = omega (arith, h.arrays.fits, lifted_length b.lifts b.row)

  -- n is the count of what is read of the row
  pub held_picks : d.numbers.n ≡ length (lifted b)
  held_picks = h.picks ∙ sym (lifted_length b.lifts b.row)

  -- the number of a feed and of a load is the one by the book, which is 0 exactly where the book takes it

  pub feed_number : (pick entries : ℕ) → feed_refusal d.numbers.n d.numbers.k pick entries ≡ feed_refusal (length b.row) b.K pick entries
  feed_number pick entries = rw (h.picks, h.sections)

  pub feed_case : (pick entries : ℕ) → Case (feed_taken b pick entries) (feed_refusal (length b.row) b.K pick entries)
  feed_case pick entries = feed_cases b pick entries held_fits h.least h.most

  pub load_number : (lifts : List ℕ) → load_refusal d.numbers.n d.numbers.k lifts ≡ load_refusal (length b.row) b.K lifts
  load_number lifts = rw (h.picks, h.sections)

  pub load_case : (lifts : List ℕ) → Case (load_taken b lifts) (load_refusal (length b.row) b.K lifts)
  load_case lifts = load_cases b lifts held_fits h.least h.most

-- Start

pub empty_holds : (K : ℕ) (lifts : List ℕ) (marks : Marks) → 1 ≤ K → K ≤ most_sections → Holds (empty_under K lifts marks) (book K lifts [] marks)
empty_holds K lifts marks a b = record {
  least = a;
  most = b;
  sections = refl;
  picks = refl;
  lifts = refl;
  marks = refl;
  room = length-replicate {A = ℕ} most_picks 0;
  letters = λ i l. absurd (omega arith);
  arrays = held_none K;
}

-- an accepted start holds the empty draft
pub start_holds : {d : Draft} {K : ℕ} {r : Changed} → StartPromise d K r → start_refusal K ≡ 0 → Holds r.state (started_book K)
start_holds {K = K} p z =
    let k = start_fits K z in
    subst (λ s. Holds s (started_book K)) (sym (p.begins z)) (empty_holds K fixed_lifts no_marks k.0 k.1)

module _ (d : Draft) (K : ℕ) where
  pub start_refused : (r : Refusal) → refusal_says r ≡ outcome (start_refusal K) → StartPromise d K (answered_as (Err r) d)
  unfolding reply_to refusal_of lent
  start_refused r e = record { says = λ b. refused_by r _ e [] _; refuses = λ _. refl; begins = λ z. absurd (outcome_some r _ e z) }

  module _ (e : gave [] ≡ outcome (start_refusal K)) where
    pub start_begun : StartPromise d K (answered_as (Ok tt) (fresh K))
    unfolding reply_to refusal_of lent found_for start_refusal
    start_begun = record { says = λ b. accepted_by _ e [] _; refuses = λ f. absurd (f (outcome_zero (start_refusal K) e)); begins = λ _. refl }

    -- in the arrays of no letter
    pub start_begun_in : (letters codes lifts marks : List ℕ) (v : Centres) (w : Places) → letters ≡ replicate most_picks 0
        → codes ≡ replicate most_picks 0 → lifts ≡ fixed_lifts → marks ≡ entries no_marks → v ≡ (fresh K).centres → w ≡ (fresh K).places
        → StartPromise d K (answered_as (Ok tt) (draft_in (record { n = 0; k = K; longest = record { 0 = 1 } }) letters codes lifts marks v w))
    start_begun_in letters codes lifts marks v w p c t m q r = rw (p, c, t, m, q, r) start_begun

-- Feed

-- a state is its numbers, letters, lifts, marks and arrays
state_as : (s : Draft) (n k : ℕ) (letters lifts marks : List ℕ) (a : Arrays) → s.numbers.n ≡ n → s.numbers.k ≡ k → s.letters ≡ letters → s.lifts ≡ lifts
    → s.marks ≡ marks → arrays_of s ≡ a → s ≡ state_with n k letters lifts marks a
state_as s n k letters lifts marks a p q l t m r = rw (← p, ← q, ← l, ← t, ← m, ← r)

-- a letter stored behind the row's
stored_more : (letters row : List ℕ) (pick : ℕ) → length row < length letters → Agree (word letters) (word row) (length row)
    → Agree (word (set letters (length row) pick)) (word (row ++ pick ∷ [])) (length (row ++ pick ∷ []))
stored_more letters row pick room f i l = elim (dec_lt i (length row)) [
  | yes x ↦ get_or-set_other letters (length row) i pick 0 (λ e. omega arith) ∙ f i x ∙ sym (get_or-append row (pick ∷ []) 0 i x)
  | no x ↦
      let z : i ≡ length row = omega (arith, length-append row (pick ∷ [])) in
      rw z (get_or-set_same letters (length row) pick 0 room ∙ sym (get_or-append_seam row pick [] 0))
]

-- one pick more, where there is room for it
pub pick_holds : {d : Draft} {b : Book} → Holds d b → (pick : ℕ) → length b.row < most_picks → Holds (with_pick d pick) (fed_book b pick)
unfolding with_pick
pick_holds {d} {b} h pick l = record {
  least = h.least;
  most = h.most;
  sections = h.sections;
  picks = ap (λ x. x + 1) h.picks ∙ sym (length-append b.row (pick ∷ []));
  lifts = h.lifts;
  marks = h.marks;
  room = length-set d.letters d.numbers.n pick ∙ h.room;
  letters = rw h.picks (stored_more d.letters b.row pick (omega (arith, h.room)) h.letters);
  arrays = rw (lifted_more b.lifts b.row pick) (subst (λ z. ArraysHold b.K (lifted b ++ lift_in b.lifts pick ∷ []) z.arrays) same
      (means b.K (lift_in b.lifts pick) (lifted b) (arrays_of d) [] h.arrays (omega (arith, lifted_length b.lifts b.row))).holds);
}
  where
    same : append b.K (length (lifted b)) (lift_in b.lifts pick) (arrays_of d) [] ≡ append d.numbers.k d.numbers.n (code_in d pick) (arrays_of d) []
    same =
        ap (λ k. append k (length (lifted b)) (lift_in b.lifts pick) (arrays_of d) []) (sym h.sections)
        ∙ ap (λ n. append d.numbers.k n (lift_in b.lifts pick) (arrays_of d) []) (sym (held_picks h))
        ∙ ap (λ t. append d.numbers.k d.numbers.n (lift_in t pick) (arrays_of d) []) (sym h.lifts)

pub byte_mask : (K x : ℕ) → K ≤ most_sections → x < 2 ^ suc K → mask_byte x ≡ x / 2
byte_mask K x a b = omega (arith, pow_mono {i = suc K} {j = 9} (omega arith))

module _ (d : Draft) (pick : ℕ) (before : List ℕ) where
  abbrev number : ℕ
  number = feed_refusal d.numbers.n d.numbers.k pick (length before)

  feed_refused_means : {b : Book} → Holds d b → number ≢ 0 → Writes b (feed pick before) (reply (refused number) before) d
  unfolding reply_to refusal_of lent found_for write
  feed_refused_means {b} h f = go (feed_case h pick (length before))
    where
      go : Case (feed_taken b pick (length before)) (feed_refusal (length b.row) b.K pick (length before))
          → Writes b (feed pick before) (reply (refused number) before) d
      go (taken t z) = absurd (f (feed_number h pick (length before) ∙ z))
      go (left t z) = record {
        replies = sym (unless_not _ before _ z ∙ ap (λ x. reply (refused x) before) (sym (feed_number h pick (length before))));
        holds = rw t h;
      }

  -- the answer has the refusal's number
  pub feed_refused : (r : Refusal) → refusal_says r ≡ outcome number → (x : ℕ) → x ≡ number_of r
      → FeedPromise d pick before (answered_as (Refused x) d) before
  feed_refused r e x q = record {
    meaning = λ b h. rw is (feed_refused_means h (outcome_some r _ e));
    refuses = λ _. (ap refused is, refl, refl);
    computes = λ z. absurd (outcome_some r _ e z);
  }
    where
      is : x ≡ number
      is = q ∙ outcome_number r _ e

  -- z is what the core leaves for the pick's code, state the state with it
  module _ (e : gave [] ≡ outcome number) (z : After) (state : Draft) (more : state.numbers.n ≡ d.numbers.n + 1) (same : state.numbers.k ≡ d.numbers.k)
      (letters : state.letters ≡ set d.letters d.numbers.n pick) (lifts : state.lifts ≡ d.lifts) (marks : state.marks ≡ d.marks)
      (parts : arrays_of state ≡ z.arrays)
      (code : ℕ) (is : code ≡ code_in d pick) (a : Appends d.numbers.k d.numbers.n code (arrays_of d) before z) where
    clear : number ≡ 0
    clear = outcome_zero number e

    fits : FeedFits d.numbers.n d.numbers.k pick (length before)
    fits = feed_fits d.numbers.n d.numbers.k pick (length before) clear

    computed : z ≡ append d.numbers.k d.numbers.n (code_in d pick) (arrays_of d) before
    computed = a.computes ∙ ap (λ x. append d.numbers.k d.numbers.n x (arrays_of d) before) is

    stored : state ≡ with_pick d pick
    unfolding with_pick
    stored =
        state_as state (d.numbers.n + 1) d.numbers.k _ _ _ _ more same letters lifts marks
        (parts ∙ ap (λ x. x.arrays) computed ∙ append_arrays d.numbers.k d.numbers.n (code_in d pick) (arrays_of d) before)

    feed_taken_means : {b : Book} → Holds d b → Writes b (feed pick before) (reply (gave (mask_byte z.row ∷ z.count ∷ [])) z.visits) state
    unfolding reply_to refusal_of lent found_for write mask_of
    feed_taken_means {b} h = go (feed_case h pick (length before))
      where
        -- the code is the pick's lift
        read : lifted b ++ code ∷ [] ≡ fed_lifted b pick
        read = ap (λ x. lifted b ++ x ∷ []) (is ∙ ap (λ t. lift_in t pick) h.lifts) ∙ sym (lifted_more b.lifts b.row pick)

        m : Means b.K (fed_lifted b pick) (arrays_of d) before z
        m = subst (λ u. Means b.K u (arrays_of d) before z) read (subst (λ k. Means k (lifted b ++ code ∷ []) (arrays_of d) before z) h.sections
            (a.meaning (lifted b) (sym (held_picks h)) (subst (λ k. ArraysHold k (lifted b) (arrays_of d)) (sym h.sections) h.arrays)))

        bits : mask_byte z.row ≡ fed_mask b pick
        bits = ap mask_byte m.row ∙ byte_mask b.K _ h.most (row_lt b.K (word (fed_lifted b pick)) (length (fed_lifted b pick)))

        list : z.visits ≡ filled (fed_visits b pick) before
        list =
            m.list (omega (arith, a.few, fits.enough))
            ∙ ap (λ c. fed_visits b pick ++ drop c before) m.count

        go : Case (feed_taken b pick (length before)) (feed_refusal (length b.row) b.K pick (length before))
            → Writes b (feed pick before) (reply (gave (mask_byte z.row ∷ z.count ∷ [])) z.visits) state
        go (left t f) = absurd (f (sym (feed_number h pick (length before)) ∙ clear))
        go (taken t f) = record {
          replies = rw (bits, m.count, list) (sym (unless_zero _ before _ f));
          holds = rw t (subst (λ s. Holds s (fed_book b pick)) (sym stored) (pick_holds h pick (omega (arith, h.picks, fits.room))));
        }

    pub feed_taken_lem : FeedPromise d pick before (answered_as (Taken (mask_byte z.row) z.count) state) z.visits
    feed_taken_lem = record {
      meaning = λ b h. feed_taken_means h;
      refuses = λ f. absurd (f clear);
      computes = λ _. rw (← computed) (record {
        says = refl;
        list = refl;
        few = a.few;
        size = a.size;
        later = a.later;
        stores = stored;
      });
    }

-- Load

module _ (d : Draft) (lifts : List ℕ) where
  abbrev load_number_of : ℕ
  load_number_of = load_refusal d.numbers.n d.numbers.k lifts

  load_refused_means : load_number_of ≢ 0 → {b : Book} → Holds d b
      → Writes b (load lifts) (reply (refusal_to (load lifts) load_number_of) []) d
  unfolding reply_to refusal_of lent found_for write
  load_refused_means f {b} h = go (load_case h lifts)
    where
      go : Case (load_taken b lifts) (load_refusal (length b.row) b.K lifts)
          → Writes b (load lifts) (reply (refusal_to (load lifts) load_number_of) []) d
      go (taken t z) = absurd (f (load_number h lifts ∙ z))
      go (left t z) = record {
        replies = ap (λ x. reply (refusal_to (load lifts) x) []) (load_number h lifts) ∙ sym (said_not (refusal_to (load lifts)) _ [] _ z);
        holds = rw t h;
      }

  pub load_refused : (r : Refusal) → refusal_says r ≡ refusal_to (load lifts) load_number_of → load_number_of ≢ 0
      → LoadPromise d lifts (answered_as (Err r) d)
  load_refused r s f = record {
    meaning = λ b h. rw s (load_refused_means f h);
    refuses = λ _. (s, refl);
    computes = λ z. absurd (f z);
  }

  load_taken_means : load_number_of ≡ 0 → {b : Book} → Holds d b → Writes b (load lifts) (reply (gave []) []) (with_lifts d lifts)
  unfolding reply_to refusal_of lent found_for write
  load_taken_means q {b} h = go (load_case h lifts)
    where
      -- an empty row is read alike under any lifts
      arrays : b.row ≡ [] → ArraysHold b.K (lifted_by lifts b.row) (arrays_of d)
      arrays r = rw r (rw r at h.arrays)

      go : Case (load_taken b lifts) (load_refusal (length b.row) b.K lifts) → Writes b (load lifts) (reply (gave []) []) (with_lifts d lifts)
      go (left t z) = absurd (z (sym (load_number h lifts) ∙ q))
      go (taken t z) = record {
        replies = sym (said_zero (refusal_to (load lifts)) _ [] _ z);
        holds = rw t (record {
          least = h.least;
          most = h.most;
          sections = h.sections;
          picks = h.picks;
          lifts = refl;
          marks = h.marks;
          room = h.room;
          letters = h.letters;
          arrays = arrays (empty_taken b lifts t);
        });
      }

  pub load_taken_lem : load_number_of ≡ 0 → LoadPromise d lifts (answered_as (Ok tt) (with_lifts d lifts))
  load_taken_lem q = record {
    meaning = λ b h. load_taken_means q h;
    refuses = λ f. absurd (f q);
    computes = λ _. (refl, refl);
  }
