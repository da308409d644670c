-- Demand 1: the refusals, on any state whatever and in every run; show, and lift on any state.
use mathlib.Core.Path.{◌≡◌, refl, sym, ap, ap₂, subst, ◌∙◌}
use mathlib.Core.Logic.{◌↔◌, ◌≢◌, inl, inr}
use mathlib.Core.List.{List, [], ◌∷◌, ◌++◌, append_assoc, Memᴰ}
use Prim.Native.Nat.{ℕ, ◌-◌}
use native.Mathlib.Omega.{arith}
use native.Mathlib.Decide.{ℕ_discrete}
use lib.ListN.{length, take, drop, get_or, length-drop, take-append-drop}
use lib.Seq.{length-take-le}
use borrow.Author.Tests.{eq-eqb}
use Rattle.models.specs.Core.{After, append}
use Rattle.promises.specs.declared.Draft.{Draft}
use Rattle.promises.specs.Answers.{gave, refused, refused_at, Under, Reply, reply, done_says, feed_says, Changed, Fed}
use Rattle.promises.specs.Refusals.{start_refusal, feed_refusal, load_refusal, show_refusal, letter_refusal}
use Rattle.promises.specs.Lifts.{lift_in}
use Rattle.promises.specs.Marks.{mark_at, is_mark, room_for}
use Rattle.promises.specs.Book.{Book, Query, Call, start, feed, load, mark, back, ask, lift, lent, blank, book_of}
use Rattle.promises.specs.Replies.{unless_said, or_no_mark, or_fifth_name, gives, refusal_of, refusal_to, found_for, reply_to, section_of, shown, shown_behind}
use Rattle.promises.specs.Listed.{Line, First, NoneMet, listed, sought, show_lines}
use Rattle.promises.specs.Says.{PartOf}
use Rattle.promises.proofs.BookLaws.{said_zero, said_not, unless_zero, unless_not, refusal_under}
use Rattle.promises.proofs.ShowLaws.{part_fits}
use Rattle.promises.specs.State.{arrays_of, code_in, marks_of}
use Rattle.promises.specs.Promises.{mask_byte, found_in, computed_to, StartPromise, FeedPromise, LoadPromise, MarkPromise, BackPromise, Reads, ShowPromise}
use Rattle.promises.specs.Runs.{Made, started, fed, loaded, marked, returned, asked, call_of, calls, reply_of, Meets, leaves}
use Rattle.promises.specs.Demands.{sought_numbers, PlaceOf, Demand1Holds, Answered, Demand1RunHolds, ShowRight, ShowHolds, LiftRight, LiftHolds}
use Rattle.promises.proofs.Keeping.{gave_accepted, said_is, replied_at}
use Rattle.promises.proofs.Listing.{Tested, hit, clear, first_one, first_none, show_tested}
use Rattle.promises.proofs.Finding.{OnlyUnder, gave_only, marks_only}
use Rattle.promises.proofs.Calls.{listed_tested, found_only}
use Rattle.promises.proofs.Placing.{no_place, refusal_at, zero_met}
use Rattle.promises.proofs.Answering.{answered}

-- On any state: a reply by the call's number, and by what is found where that is 0

pub record ByNumber (number : ℕ) (call : Call) (r : Reply) : Type 0 where
  pub found : Reply
  pub is : r ≡ unless_said (refusal_to call) number (lent call) found
  pub only : OnlyUnder (lent call) (sought_numbers call) found

module _ {number : ℕ} {call : Call} {r : Reply} (h : ByNumber number call r) where
  by_refused : number ≢ 0 → r ≡ reply (refusal_to call number) (lent call)
  by_refused f = h.is ∙ said_not (refusal_to call) number (lent call) h.found f

  by_refuses : number ≢ 0 → Under r.said number
  by_refuses f = subst (λ x. Under x.said number) (sym (by_refused f)) (refusal_under call number)

  by_found : number ≡ 0 → (x : ℕ) → Under r.said x → (r.said ≡ refused x) × (r.list ≡ lent call) × Memᴰ x (sought_numbers call)
  by_found z x e =
      let q : r ≡ h.found = h.is ∙ said_zero (refusal_to call) number (lent call) h.found z in
      let l = h.only x (subst (λ y. Under y.said x) q e) in
      (ap (λ y. y.said) q ∙ l.0, ap (λ y. y.list) q ∙ l.1, l.2)

  by_keeps : (x : ℕ) → Under r.said x → r.list ≡ lent call
  by_keeps x e = elim (ℕ_discrete number 0) [
    | yes z ↦ (by_found z x e).1
    | no f ↦ ap (λ y. y.list) (by_refused f)
  ]

start_numbered : {d : Draft} {K : ℕ} {r : Changed} → StartPromise d K r
    → ByNumber (refusal_of d.numbers.n d.numbers.k (start K)) (start K) (reply (done_says r.answer) [])
unfolding reply_to refusal_of lent found_for sought
start_numbered p = record { found = gives []; is = p.says blank; only = gave_only [] [] [] [] }

query_numbered : {d : Draft} {q : Query} {r : Reply} → Reads d q r → ByNumber (refusal_of d.numbers.n d.numbers.k (ask q)) (ask q) r
unfolding computed_to
query_numbered {d} {q} p = record { found = found_in d q; is = p.computes; only = found_only d q }

feed_numbered : {d : Draft} {pick : ℕ} {before : List ℕ} {r : Fed} {after : List ℕ} → FeedPromise d pick before r after
    → ByNumber (refusal_of d.numbers.n d.numbers.k (feed pick before)) (feed pick before) (reply (feed_says r.answer) after)
unfolding refusal_of lent sought
feed_numbered {d} {pick} {before} {r} {after} p = record {
  found = reply (gave values) z.visits;
  is = elim (ℕ_discrete number 0) [
    | yes q ↦ let c = p.computes q in ap₂ reply c.says c.list ∙ sym (unless_zero number before _ q)
    | no f ↦ let c = p.refuses f in ap₂ reply c.0 c.2 ∙ sym (unless_not number before _ f)
  ];
  only = gave_only values before z.visits [];
}
  where
    number : ℕ
    number = feed_refusal d.numbers.n d.numbers.k pick (length before)

    z : After
    z = append d.numbers.k d.numbers.n (code_in d pick) (arrays_of d) before

    values : List ℕ
    values = mask_byte z.row ∷ z.count ∷ []

load_numbered : {d : Draft} {lifts : List ℕ} {r : Changed} → LoadPromise d lifts r
    → ByNumber (refusal_of d.numbers.n d.numbers.k (load lifts)) (load lifts) (reply (done_says r.answer) [])
unfolding refusal_of lent sought
load_numbered {d} {lifts} p = record {
  found = gives [];
  is = elim (ℕ_discrete number 0) [
    | yes q ↦ ap (λ s. reply s []) (p.computes q).0 ∙ sym (said_zero (refusal_to (load lifts)) number [] (gives []) q)
    | no f ↦ ap (λ s. reply s []) (p.refuses f).0 ∙ sym (said_not (refusal_to (load lifts)) number [] (gives []) f)
  ];
  only = gave_only [] [] [] [];
}
  where
    number : ℕ
    number = load_refusal d.numbers.n d.numbers.k lifts

mark_numbered : {d : Draft} {name : ℕ} {r : Changed} → MarkPromise d name r
    → ByNumber (refusal_of d.numbers.n d.numbers.k (mark name)) (mark name) (reply (done_says r.answer) [])
unfolding lent sought
mark_numbered {d} {name} p =
    record { found = reply (or_fifth_name (marks_of d) name) []; is = p.computes; only = marks_only (room_for (marks_of d) name) 18 }

back_numbered : {d : Draft} {name : ℕ} {r : Changed} → BackPromise d name r
    → ByNumber (refusal_of d.numbers.n d.numbers.k (back name)) (back name) (reply (done_says r.answer) [])
unfolding lent sought
back_numbered {d} {name} p =
    record { found = reply (or_no_mark (marks_of d) name) []; is = p.computes; only = marks_only (is_mark (mark_at (marks_of d) name)) 17 }

numbered : (d : Draft) (m : Made) → Meets d m → ByNumber (refusal_of d.numbers.n d.numbers.k (call_of m)) (call_of m) (reply_of m)
unfolding Meets reply_of call_of
numbered d (started K r) p = start_numbered p
numbered d (fed pick before r after) p = feed_numbered p
numbered d (loaded lifts r) p = load_numbered p
numbered d (marked name r) p = mark_numbered p
numbered d (returned name r) p = back_numbered p
numbered d (asked q r) p = query_numbered p

-- a refused call leaves the state
state_kept : (d : Draft) (m : Made) → Meets d m → (number : ℕ) → Under (reply_of m).said number → leaves d m ≡ d
unfolding Meets reply_of leaves reply_to refusal_of lent found_for
state_kept d (started K r) p number e =
    p.refuses (λ z. gave_accepted (said_is (p.says blank ∙ unless_zero (start_refusal K) [] _ z)) number e)
state_kept d (fed pick before r after) p number e = (p.refuses (λ z. gave_accepted (p.computes z).says number e)).1
state_kept d (loaded lifts r) p number e = (p.refuses (λ z. gave_accepted (p.computes z).0 number e)).1
state_kept d (marked name r) p number e = p.refuses number e
state_kept d (returned name r) p number e = p.refuses number e
state_kept d (asked q r) p number e = refl

pub demand1 : Demand1Holds
demand1 d m p = record {
  refuses = λ number f. refuses number f tested;
  places = λ number place. places number place tested;
  otherwise = λ f number e. otherwise f number e tested;
  keeps = λ number e. (by_keeps (numbered d m p) number e, state_kept d m p number e);
}
  where
    ls : List Line
    ls = listed d.numbers.n d.numbers.k (call_of m)

    tested : Tested ls (refusal_of d.numbers.n d.numbers.k (call_of m))
    tested = listed_tested d.numbers.n d.numbers.k (call_of m)

    refuses : (number : ℕ) → First ls number → Tested ls (refusal_of d.numbers.n d.numbers.k (call_of m)) → Under (reply_of m).said number
    refuses number f (hit g z) = subst (λ x. Under (reply_of m).said x) (first_one ls g f) (by_refuses (numbered d m p) z)
    refuses number f (clear g z) = absurd (first_none ls number f g)

    places : (number place : ℕ) → Tested ls (refusal_of d.numbers.n d.numbers.k (call_of m))
        → ((reply_of m).said ≡ refused_at number place) ↔ (First ls number × PlaceOf (call_of m) number place)
    places number place (hit g z) =
        let e = ap (λ x. x.said) (by_refused (numbered d m p) z) in
        let a = refusal_at (call_of m) (refusal_of d.numbers.n d.numbers.k (call_of m))
        (λ lifts q y. zero_met d.numbers.n d.numbers.k lifts (rw q at (subst (First (listed d.numbers.n d.numbers.k (call_of m))) y g))) number place in (
          λ q. let t = a.0 (sym e ∙ q) in (subst (First ls) (sym t.0) g, t.1),
          λ q. e ∙ a.1 (first_one ls q.0 g, q.1),
        )
    places number place (clear g z) = (
      λ q. absurd (no_place (sym (by_found (numbered d m p) z number (inr (place, q))).0 ∙ q)),
      λ q. absurd (first_none ls number q.0 g),
    )

    otherwise : NoneMet ls → (number : ℕ) → Under (reply_of m).said number → Tested ls (refusal_of d.numbers.n d.numbers.k (call_of m))
        → Memᴰ number (sought_numbers (call_of m))
    otherwise f number e (hit g z) = absurd (first_none ls _ g f)
    otherwise f number e (clear g z) = (by_found (numbered d m p) z number e).2

-- In every run

answered_at : (b : Book) {r : Reply} (call : Call) → r ≡ reply_to b call → Answered b call r
answered_at b call e = subst (Answered b call) (sym e) (answered b call)

pub demand1_run : Demand1RunHolds
demand1_run d K r ms o xs ys m e = answered_at (book_of (calls xs)) (call_of m) (replied_at o xs ys m e)

-- Show

module _ (letters ends : List ℕ) (s : ℕ) {part : List ℕ} (p : ShowPromise letters ends s part) where
  show_part : show_refusal letters ends s ≢ 0 → part ≡ []
  unfolding shown
  show_part f = p ∙ ap (λ r. r.list) (unless_not (show_refusal letters ends s) [] _ f)

  show_gives : show_refusal letters ends s ≡ 0 → PartOf letters ends s part
  unfolding shown section_of
  show_gives z =
      let f = part_fits letters ends s z in
      let a : ℕ = get_or (0 ∷ ends) (s - 1) 0 in
      let len : ℕ = get_or (0 ∷ ends) s 0 - a in
      let rest : List ℕ = drop a letters in
      let e : part ≡ take len rest = p ∙ ap (λ r. r.list) (unless_zero (show_refusal letters ends s) [] _ z) in
      let l : length part ≡ len = ap length e ∙ length-take-le len rest (omega (arith, length-drop a letters, f.inside)) in
      let m : length (take a letters) ≡ a = length-take-le a letters (omega (arith, f.order, f.inside)) in
      let q : part ++ drop len rest ≡ rest = ap (λ x. x ++ drop len rest) e ∙ take-append-drop len rest in
      record {
        front = take a letters;
        back = drop len rest;
        is = sym (append_assoc (take a letters) part (drop len rest) ∙ ap (λ x. take a letters ++ x) q ∙ take-append-drop a letters);
        from = m;
        to = omega (arith, l, m, f.order);
      }

pub show_holds : ShowHolds
unfolding shown_behind
show_holds letters ends s lent at part number p w q = go (show_tested letters ends s)
  where
    ls : List Line
    ls = show_lines letters ends s

    go : Tested ls (show_refusal letters ends s) → ShowRight letters ends s lent at part number
    go (hit g f) = record {
      refuses = λ x n. (λ e. let z : show_refusal letters ends s ≡ x = sym q ∙ e in rw z at g, λ h. q ∙ first_one ls g h);
      empty = λ _. show_part letters ends s p f;
      accepts = (λ z. absurd (f (sym q ∙ z)), λ h. absurd (first_none ls _ g h));
      gives = λ h. absurd (first_none ls _ g h);
      place = λ h. absurd (first_none ls _ g h);
    }
    go (clear g z) = record {
      refuses = λ x n. (λ e. absurd (n (sym e ∙ q ∙ z)), λ h. absurd (first_none ls x h g));
      empty = λ f. absurd (f (q ∙ z));
      accepts = (λ _. g, λ _. q ∙ z);
      gives = λ _. show_gives letters ends s p z;
      place = λ _. (w.0, w.1 ∙ simp (eq-eqb (show_refusal letters ends s) 0 z));
    }

-- Lift, on any state

pub lift_holds : LiftHolds
unfolding computed_to found_in refusal_of
lift_holds d letter r p = go (listed_tested d.numbers.n d.numbers.k (ask (lift letter)))
  where
    ls : List Line
    ls = listed d.numbers.n d.numbers.k (ask (lift letter))

    number : ℕ
    number = letter_refusal d.numbers.n d.numbers.k letter

    go : Tested ls number → LiftRight d letter r.said
    go (hit g f) = let e : r.said ≡ refused number = said_is (p.computes ∙ unless_not number [] _ f) in record {
      refuses = λ x. (λ h. let z : number ≡ x = cc in rw z at g, λ h. e ∙ ap refused (first_one ls g h));
      gives = λ h. absurd (first_none ls _ g h);
    }
    go (clear g z) = let e : r.said ≡ gave (lift_in d.lifts letter ∷ []) = said_is (p.computes ∙ unless_zero number [] _ z) in record {
      refuses = λ x. (λ h. absurd (gave_accepted e x (inl h)), λ h. absurd (first_none ls x h g));
      gives = λ _. e;
    }
