-- Demand 3: one theorem about every run.
use mathlib.Core.Path.{◌≡◌, refl, sym, ap, subst, ◌∙◌}
use mathlib.Core.Bool.{Bool, true, false, ◌&&◌, false≢true}
use mathlib.Core.Logic.{◌↔◌, inl}
use mathlib.Core.List.{List, [], ◌∷◌, ◌++◌}
use mathlib.Core.Option.{Option, some, none}
use Prim.Native.Nat.{ℕ, ◌+◌, ◌-◌, ◌*◌, ◌≤◌, ◌<◌}
use native.Mathlib.Omega.{arith}
use lib.ListN.{length, take, drop, length-append}
use lib.Seq.{take_at, drop_at}
use borrow.Author.Tests.{le-leb}
use Rattle.words.proofs.Cases.{true_false}
use Rattle.words.specs.Ranges.{between}
use Rattle.words.specs.Definitions.{most_picks, most_sections, first_letter, last_letter, word, centre, Ending, next_leading, Follows, Visits}
use Rattle.words.specs.Computed.{split_of, visits, longest_centre, least_period, next_ending, shorter_after}
use Rattle.words.specs.Computed.{longest as longest_of}
use Rattle.words.proofs.Laws.{least_period_lem, longest_is, longest_centre_lem, next_after_lem, visits_are}
use Rattle.words.proofs.FewVisits.{few_visits, visits_some}
use Rattle.words.proofs.Visiting.{visit_leads, visit_next}
use Rattle.words.proofs.Splits.{Splitting, given, lacking, split_law}
use Rattle.models.proofs.Core.{means}
use Rattle.models.proofs.Centres.{longest_centre_at}
use Rattle.promises.specs.declared.Draft.{Draft}
use Rattle.promises.specs.Answers.{Said, gave, refused, refused_at, Under, Reply, reply, done_says, feed_says, Changed, Fed}
use Rattle.promises.specs.Refusals.{start_refusal, load_refusal, split_refusal, centre_refusal, longest_refusal}
use Rattle.promises.specs.Lifts.{lift_in}
use Rattle.promises.proofs.LiftLaws.{lifted_length, lifted_more}
use Rattle.promises.specs.Marks.{mark_at, is_mark, room_for}
use Rattle.promises.specs.Book.{Book, load, blank, split, longest, next, lent, lifted, fed_row, fed_lifted, start_taken, load_taken, mark_taken, back_taken}
use Rattle.promises.specs.Replies.{unless, or_no_split, or_no_ending, or_refused, split_reply, refusal_of, found_for, reply_to}
use Rattle.promises.proofs.BookLaws.{Case, taken, left, start_cases, passes7, unless_zero, unless_not, refusal_under}
use Rattle.promises.proofs.WritingLaws.{held_fits, load_number, load_case}
use Rattle.promises.proofs.MarkingLaws.{letter_case}
use Rattle.promises.specs.State.{arrays_of}
use Rattle.promises.specs.Holds.{Holds}
use Rattle.promises.specs.Promises.{StartPromise, FeedPromise, LoadPromise, MarkPromise, BackPromise, Reads}
use Rattle.promises.specs.Demands.{Accepted, SplitRight, MovedRight, VisitsRight, Demand3Holds}
use Rattle.promises.proofs.Keeping.{gave_accepted, said_is, list_is, whole, start_met, holds_at_feed, feed_met, holds_at_load, load_met, mark_met, back_met}
use Rattle.promises.proofs.Feeding.{fed_accepted, fed_said, fed_list, fed_holds, fed_room}

-- The longest ending's centre

longest_said : {d : Draft} {b : Book} {r : Reply} → Holds d b → Reads d longest r
    → r.said ≡ gave (longest_centre (word (lifted b)) (length (lifted b)) ∷ [])
unfolding reply_to refusal_of lent found_for longest_refusal
longest_said {d} {b} h p =
    said_is (p.meaning b h ∙ unless_zero _ [] _ (passes7 (length b.row) b.K 0 (held_fits h) h.least h.most))

moved_right : {d : Draft} {b : Book} {r : Reply} → Holds d b → Reads d longest r → MovedRight (lifted b) r.said
moved_right {d} {b} h p =
    let w : ℕ → ℕ = word (lifted b) in
    let n : ℕ = length (lifted b) in
    let e : longest_centre w n ≡ 1 + (2 * n - longest_of w n) = omega (arith, longest_centre_lem w n) in
    record { L = longest_of w n; longest = longest_is w n; moved = 2 * n - longest_of w n; says = longest_said h p ∙ ap (λ c. gave (c ∷ [])) e; exactly = refl }

-- one pick more makes it no smaller
onward : {d : Draft} {b : Book} → Holds d b → (pick : ℕ) → length b.row < most_picks
    → longest_centre (word (lifted b)) (length (lifted b)) ≤ longest_centre (word (fed_lifted b pick)) (length (fed_lifted b pick))
onward {d} {b} h pick l =
    let m = means b.K (lift_in b.lifts pick) (lifted b) (arrays_of d) [] h.arrays (omega (arith, lifted_length b.lifts b.row)) in
    rw (lifted_more b.lifts b.row pick)
    (omega (arith, m.rises, m.longest, longest_centre_at h.arrays.iterates.stretches.radii.longest))

-- Splits

split_passes : (n K i k entries : ℕ) → n ≤ most_picks → 1 ≤ K → K ≤ most_sections → 1 ≤ k → k ≤ K → k ≤ entries → i ≤ n
    → split_refusal n K i k entries ≡ 0
unfolding split_refusal
split_passes n K i k entries x y z p q r s =
    passes7 n K _ x y z ∙ simp (le-leb 1 k p, le-leb k K q, le-leb k entries r, le-leb 0 i (omega arith), le-leb i n s)

split_found : (u : List ℕ) (i k : ℕ) (before : List ℕ) (said : Said) (after : List ℕ)
    → reply said after ≡ split_reply (split_of (word u) i k) before
    → SplitRight u i k before said after
unfolding or_no_split
split_found u i k before said after e = go (split_of (word u) i k) (split_law (word u) k i) e
  where
    go : (o : Option (List ℕ)) → Splitting (word u) i k o
        → reply said after ≡ split_reply o before
        → SplitRight u i k before said after
    go o (given ends p n) e =
        let q : reply said after ≡ split_reply (some ends) before = e ∙ ap (λ x. split_reply x before) p in
        let c : length ends ≡ k = n.is.count in
        let ok : Accepted said = gave_accepted (said_is q) in
        record {
          wants = (λ z. absurd (ok 9 (inl z)), λ f. absurd (f ends n.is));
          keeps = λ z. absurd (ok 9 (inl z));
          gives = λ _. (ends, n, said_is q, list_is q ∙ ap (λ x. ends ++ drop x before) c);
        }
    go o (lacking p f) e =
        let q : reply said after ≡ split_reply none before = e ∙ ap (λ x. split_reply x before) p in
        record { wants = (λ _. f, λ _. said_is q); keeps = λ _. list_is q; gives = λ z. absurd (z (said_is q)) }

split_right : {d : Draft} {b : Book} → Holds d b → (i k : ℕ) (before : List ℕ) (r : Reply)
    → i ≤ length b.row → 1 ≤ k → k ≤ b.K → k ≤ length before → Reads d (split i k before) r
    → SplitRight (lifted b) i k before r.said r.list
unfolding reply_to refusal_of lent found_for
split_right {d} {b} h i k before r x y z l p =
    split_found (lifted b) i k before r.said r.list
    (p.meaning b h ∙ unless_zero _ before _ (split_passes (length b.row) b.K i k (length before) (held_fits h) h.least h.most y z l x))

-- Visits

centre_passes : (n K c : ℕ) → n ≤ most_picks → 1 ≤ K → K ≤ most_sections → 1 ≤ c → c ≤ 2 * n + 1 → centre_refusal n K c ≡ 0
unfolding centre_refusal
centre_passes n K c x y z l m = passes7 n K _ x y z ∙ simp (le-leb 1 c l, le-leb c (2 * n + 1) m)

-- the call for the next shorter ending after one of length a
next_said : {d : Draft} {b : Book} {a : ℕ} {r : Reply} → Holds d b → 0 < a → Ending (word (lifted b)) (length (lifted b)) a
    → Reads d (next (centre (length (lifted b)) a)) r
    → r.said ≡ gave (centre (length (lifted b)) (next_ending (word (lifted b)) (length (lifted b)) a) ∷ a ∷ least_period (word (lifted b)) (length (lifted b)) a ∷ [])
unfolding reply_to refusal_of lent found_for shorter_after
next_said {d} {b} {a} h l e p =
    let n : ℕ = length (lifted b) in
    let high : centre n a ≤ 2 * length b.row + 1 = omega (arith, e.fits, lifted_length b.lifts b.row) in
    said_is (p.meaning b h ∙ unless_zero _ [] _ (centre_passes (length b.row) b.K (centre n a) (held_fits h) h.least h.most (omega arith) high))
    ∙ ap or_no_ending (next_after_lem (word (lifted b)) n (centre n a) a l e refl)

-- a visit leads to the next one, or to the empty ending
leads_to : {d : Draft} {b : Book} {vs : List ℕ} {x y : ℕ} {r : Reply} → Holds d b → Visits (word (lifted b)) (length (lifted b)) vs
    → Follows x y (vs ++ 0 ∷ []) → Reads d (next (centre (length (lifted b)) x)) r
    → (to len p : ℕ) × (r.said ≡ gave (to ∷ len ∷ p ∷ [])) × (len ≡ x) × (y ≡ next_leading len p)
leads_to {b = b} {x = x} h v f p =
    let l = visit_leads v f in
    let is : Ending (word (lifted b)) (length (lifted b)) x = l.1.is in
    (_, _, _, next_said h l.0 is p, refl, visit_next v f _ (least_period_lem x l.0 is.fits))

visits_right : {d : Draft} {b : Book} {pick : ℕ} {before : List ℕ} {r : Fed} {after : List ℕ} → Holds d b → FeedPromise d pick before r after
    → Accepted (feed_says r.answer) → VisitsRight (fed_lifted b pick) before (feed_says r.answer) r.state after
visits_right {d} {b} {pick} {before} {r} {after} h p ok =
    let u : List ℕ = fed_lifted b pick in
    let vs : List ℕ = visits (word u) (length u) in
    let c : ℕ = length vs in
    let some : 0 < length u = omega (arith, lifted_length b.lifts (fed_row b pick), length-append b.row (pick ∷ [])) in
    let e : after ≡ vs ++ drop c before = fed_list h p ok in
    let front : take c after ≡ vs = ap (take c) e ∙ take_at vs (drop c before) c refl in
    record {
      mask = _;
      c = c;
      says = fed_said h p ok;
      fits = omega (arith, ap length e ∙ length-append vs (drop c before));
      visited = rw front (visits_are (word u) (length u));
      some = visits_some (word u) (length u) some;
      few = few_visits (visits_are (word u) (length u)) some;
      kept = ap (drop c) e ∙ drop_at vs (drop c before) c refl;
      walked = λ x y q f g. leads_to (fed_holds h p ok) (visits_are (word u) (length u)) (rw front at f) g;
    }

-- Starts and loads

start_accepted : {d : Draft} {K : ℕ} {r : Changed} → StartPromise d K r → Accepted (done_says r.answer) ↔ (start_taken K ≡ true)
unfolding reply_to refusal_of lent found_for
start_accepted {d} {K} {r} p = go (start_cases K)
  where
    go : Case (start_taken K) (start_refusal K) → Accepted (done_says r.answer) ↔ (start_taken K ≡ true)
    go (taken t z) = (λ _. t, λ _. gave_accepted (said_is (p.says blank ∙ unless_zero (start_refusal K) [] _ z)))
    go (left t z) = (λ ok. absurd (ok _ (inl (said_is (p.says blank ∙ unless_not (start_refusal K) [] _ z)))), λ y. absurd (true_false y t))

load_accepted : {d : Draft} {b : Book} {lifts : List ℕ} {r : Changed} → Holds d b → LoadPromise d lifts r
    → Accepted (done_says r.answer) ↔ (load_taken b lifts ≡ true)
load_accepted {d} {b} {lifts} {r} h p = go (load_case h lifts)
  where
    go : Case (load_taken b lifts) (load_refusal (length b.row) b.K lifts) → Accepted (done_says r.answer) ↔ (load_taken b lifts ≡ true)
    go (taken t z) = (λ _. t, λ _. gave_accepted (p.computes (load_number h lifts ∙ z)).0)
    go (left t z) =
        let n : ℕ = load_refusal d.numbers.n d.numbers.k lifts in
        let u : Under (done_says r.answer) n = subst (λ s. Under s n) (sym (p.refuses (λ q. z (sym (load_number h lifts) ∙ q))).0) (refusal_under (load lifts) n) in
        (λ ok. absurd (ok n u), λ y. absurd (true_false y t))

-- Marks and going back: s tells a name A to Z, t what the marks say

marking_accepted : (s t : Bool) {number : ℕ} (x : ℕ) {said : Said} → Case s number → reply said [] ≡ unless number [] (reply (or_refused t x) [])
    → Accepted said ↔ ((s && t) ≡ true)
marking_accepted s t {number} x {said} (left e z) p = (
  λ ok. absurd (ok number (inl (said_is (p ∙ unless_not number [] _ z)))),
  λ q. absurd (false≢true (ap (λ y. y && t) (sym e) ∙ q)),
)
marking_accepted s t {number} x {said} (taken e z) p = rw e (go t (p ∙ unless_zero number [] _ z))
  where
    go : (t : Bool) → reply said [] ≡ reply (or_refused t x) [] → Accepted said ↔ (t ≡ true)
    go true q = (λ _. refl, λ _. gave_accepted (said_is q))
    go false q = (λ ok. absurd (ok x (inl (said_is q))), λ y. absurd (false≢true y))

pub mark_accepted : {d : Draft} {b : Book} {name : ℕ} {r : Changed} → Holds d b → MarkPromise d name r
    → Accepted (done_says r.answer) ↔ (mark_taken b name ≡ true)
unfolding reply_to refusal_of lent found_for
mark_accepted {b = b} {name = name} h p =
    marking_accepted (between first_letter last_letter name) (room_for b.marks name) 18 (letter_case h name) (p.meaning b h).replies

pub back_accepted : {d : Draft} {b : Book} {name : ℕ} {r : Changed} → Holds d b → BackPromise d name r
    → Accepted (done_says r.answer) ↔ (back_taken b name ≡ true)
unfolding reply_to refusal_of lent found_for
back_accepted {b = b} {name = name} h p =
    marking_accepted (between first_letter last_letter name) (is_mark (mark_at b.marks name)) 17 (letter_case h name) (p.meaning b h).replies

pub one : {a b : ℕ} → gave (a ∷ []) ≡ gave (b ∷ []) → a ≡ b
one {a} {b} e = ap (λ s. first s) e
  where
    first : Said → ℕ
    first (gave (x ∷ l)) = x
    first (gave []) = 0
    first (refused number) = 0
    first (refused_at number place) = 0

pub demand3 : Demand3Holds
demand3 d K r ms o = record {
  splits = split_right (whole o);
  moved = λ x p. moved_right (whole o) p;
  visits = λ xs pick before x after f ok. visits_right (holds_at_feed o xs f) (feed_met o xs f) ok;
  starts = λ xs ys k x e. start_accepted (start_met o xs ys e);
  feeds = λ xs pick before x after f. fed_accepted (holds_at_feed o xs f) (feed_met o xs f);
  loads = λ xs ys lifts x e. load_accepted (holds_at_load o xs ys lifts x e) (load_met o xs ys lifts x e);
  marks = λ xs ys name x e. let m = mark_met o xs ys name x e in mark_accepted m.0 m.1;
  backs = λ xs ys name x e. let m = back_met o xs ys name x e in back_accepted m.0 m.1;
  onward = λ xs pick before x after f ok p q i j g k e1 e2.
      let h = holds_at_feed o xs f in
      let m = feed_met o xs f in
      let a : i ≡ longest_centre _ _ = one (sym e1 ∙ longest_said h g) in
      let b : j ≡ longest_centre _ _ = one (sym e2 ∙ longest_said (fed_holds h m ok) k) in
      omega (arith, a, b, onward h pick (fed_room h m ok));
}
