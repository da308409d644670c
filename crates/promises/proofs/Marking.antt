-- Marks and going back: in every run, and on any state.
use mathlib.Core.Path.{◌≡◌, refl, sym, ap, ◌∙◌}
use mathlib.Core.Bool.{Bool, true, false, cond, and-eq-true_iff}
use mathlib.Core.Logic.{◌≢◌, inl}
use mathlib.Core.List.{List, [], ◌∷◌, ◌++◌}
use mathlib.Core.Option.{Option, some, none}
use Prim.Native.Nat.{ℕ, ◌-◌, ◌≤◌}
use native.Mathlib.Omega.{arith}
use Rattle.std.specs.Prelude.{Result, Ok, Err}
use lib.ListN.{length, length-append, length-map, length-set}
use lib.Seq.{length-take-le, get_or-set_same, get_or-set_other}
use Rattle.words.proofs.Cases.{clash}
use Rattle.words.specs.Definitions.{first_letter, last_letter}
use Rattle.words.specs.Ranges.{between, between_true}
use Rattle.layout.specs.Layout.{Letter}
use Rattle.promises.specs.declared.Draft.{Draft}
use Rattle.promises.specs.declared.refusal.Refusal.{Refusal}
use Rattle.promises.specs.Answers.{gave, refused, number_of, done_says, Changed}
use Rattle.promises.proofs.Outcomes.{refusal_number}
use Rattle.promises.specs.Lifts.{table_size}
use Rattle.promises.specs.Marks.{most_marks, mark_at, is_mark, mark_length, how_many, room_for, up_to}
use Rattle.promises.proofs.MarkLaws.{AtMost, most_none, most_set, most_drop, set_few, drop_few, kept_mark}
use Rattle.promises.specs.Book.{Book, started_book, fed_book, loaded_book, marked_book, back_book, Call, start, feed, load, mark, back, ask, blank, start_taken, feed_taken, load_taken, mark_taken, back_taken, write, write_all, book_of}
use Rattle.promises.specs.Replies.{or_refused, refusal_of}
use Rattle.promises.specs.Listed.{Line, First, NoneMet, no_such_mark, fifth_name, listed}
use Rattle.promises.proofs.BookLaws.{unless_zero, unless_not}
use Rattle.promises.proofs.BackLaws.{held_marks, cut_state}
use Rattle.promises.specs.State.{marks_of, cut_to}
use Rattle.promises.specs.Promises.{Marking}
use Rattle.promises.specs.Runs.{started, calls, last}
use Rattle.promises.specs.Demands.{Accepted}
use Rattle.promises.specs.Marking.{MarksHold, MarkRight, MarksSet, BacksHold, AnyMarks, AnyMarkHolds, AnyBackHolds}
use Rattle.promises.proofs.Keeping.{gave_accepted, said_is, mark_met, back_met}
use Rattle.promises.proofs.Listing.{Tested, hit, clear, first_one, first_none, first_front, first_behind, none_both}
use Rattle.promises.proofs.Finding.{no_mark, a_mark, no_room, some_room}
use Rattle.promises.proofs.Calls.{listed_tested}
use Rattle.promises.proofs.Answering.{same_number}
use Rattle.promises.proofs.Demand3.{mark_accepted, back_accepted}

-- The book's marks: one for each letter, up to four, none beyond the row

record Fits (b : Book) : Type 0 where
  size : length b.marks ≡ table_size
  four : how_many b.marks ≤ most_marks
  within : AtMost (length b.row) b.marks

is_mark_lem : (o : Option ℕ) → is_mark o ≡ true → o ≡ some (mark_length o)
is_mark_lem none e = clash cc
is_mark_lem (some m) e = refl

-- one call that is taken, or not
either : (t : Bool) (b c : Book) → (t ≡ true → Fits c) → Fits b → Fits (cond t c b)
either true b c f h = f refl
either false b c f h = h

-- a row of the mark's length
cut_fits : (b : Book) (name : ℕ) → Fits b → is_mark (mark_at b.marks name) ≡ true → Fits (back_book b name)
cut_fits b name h q =
    let m : ℕ = mark_length (mark_at b.marks name) in
    let l : m ≤ length b.row = h.within (name - first_letter) m (is_mark_lem (mark_at b.marks name) q) in
    record {
      size = length-map b.marks (up_to m) ∙ h.size;
      four = omega (arith, h.four, drop_few m b.marks);
      within = λ i x e. omega (arith, most_drop m b.marks i x e, length-take-le m b.row l);
    }

fits_on : (b : Book) (c : Call) → Fits b → Fits (write b c)
unfolding write
fits_on b (start K) h = either (start_taken K) b (started_book K) (λ _. record { size = refl; four = omega arith; within = most_none 0 }) h
fits_on b (feed pick visits) h =
    either (feed_taken b pick (length visits)) b (fed_book b pick)
    (λ _. record { size = h.size; four = h.four; within = λ i m e. omega (arith, h.within i m e, length-append b.row (pick ∷ [])) }) h
fits_on b (load lifts) h = either (load_taken b lifts) b (loaded_book b lifts) (λ _. record { size = h.size; four = h.four; within = h.within }) h
fits_on b (mark name) h = either (mark_taken b name) b (marked_book b name) (λ t. record {
  size = length-set b.marks (name - first_letter) (some (length b.row)) ∙ h.size;
  four = set_few b.marks name (length b.row) h.four ((and-eq-true_iff (between first_letter last_letter name) (room_for b.marks name)).0 t).1;
  within = most_set (length b.row) (name - first_letter) b.marks h.within;
}) h
fits_on b (back name) h =
    either (back_taken b name) b (back_book b name)
    (λ t. cut_fits b name h ((and-eq-true_iff (between first_letter last_letter name) (is_mark (mark_at b.marks name))).0 t).1) h
fits_on b (ask q) h = h

fits_all : (b : Book) (cs : List Call) → Fits b → Fits (write_all b cs)
unfolding write_all
fits_all b [] h = h
fits_all b (c ∷ cs) h = fits_all (write b c) cs (fits_on b c h)

book_fits : (cs : List Call) → Fits (book_of cs)
book_fits cs = fits_all blank cs (record { size = refl; four = omega arith; within = most_none 0 })

pub marks_hold : MarksHold
marks_hold d K r ms o =
    let h = book_fits (calls (started K r ∷ ms)) in
    record { four = h.four; within = λ name m e. h.within (name - first_letter) m e }

-- Marks that are set

other_letter : {x name : ℕ} → Letter x → Letter name → x ≢ name → x - first_letter ≢ name - first_letter
other_letter p q f e = f (omega (arith, p.low, q.low, e))

set_right : (b : Book) (name : ℕ) → Fits b → mark_taken b name ≡ true → MarkRight b name
unfolding write
set_right b name h t =
    let l = between_true first_letter last_letter name ((and-eq-true_iff (between first_letter last_letter name) (room_for b.marks name)).0 t).0 in
    let at : ℕ = name - first_letter in
    let n : ℕ = length b.row in
    record {
      own = rw t (get_or-set_same b.marks at (some n) none (omega (arith, h.size, l.low, l.high)));
      others = λ x p f. rw t (get_or-set_other b.marks at (x - first_letter) (some n) none (other_letter p l f));
    }

pub marks_set : MarksSet
marks_set d K r ms o xs ys name x e ok =
    let met = mark_met o xs ys name x e in
    set_right (book_of (calls xs)) name (book_fits (calls xs)) ((mark_accepted met.0 met.1).0 ok)

-- Going back

accepted : (answer : Result Unit Refusal) → Accepted (done_says answer) → done_says answer ≡ gave []
accepted (Ok x) ok = refl
accepted (Err r) ok = absurd (ok (number_of r) (refusal_number r))

pub backs_hold : BacksHold
backs_hold d K r ms o xs ys name x e ok =
    let b : Book = book_of (calls xs) in
    let met = back_met o xs ys name x e in
    let h = met.0 in
    let q = ((and-eq-true_iff (between first_letter last_letter name) (is_mark (mark_at b.marks name))).0 ((back_accepted h met.1).0 ok)).1 in
    let is = is_mark_lem (mark_at b.marks name) q in
    record {
      m = _;
      marks = is;
      within = (book_fits (calls xs)).within (name - first_letter) _ is;
      stay = λ y z. kept_mark _ b.marks (y - first_letter) z;
      state =
          met.1.stores (accepted x.answer ok) ∙ ap (λ m. cut_to (last d xs) (mark_length (mark_at m name))) (held_marks h)
          ∙ cut_state h (mark_length (mark_at b.marks name));
    }

-- On any state

module _ {d : Draft} {call : Call} (t : Bool) (late : Line) {next : Draft} {r : Changed} (p : Marking d call (or_refused t late.number) next r)
    (no : t ≡ false → late.Met) (yes : t ≡ true → late.Met → ⊥) where
  abbrev ls : List Line
  ls = listed d.numbers.n d.numbers.k call

  -- refused under the first of its lines
  met : {x : ℕ} → done_says r.answer ≡ refused x → First (ls ++ late ∷ []) x → AnyMarks d call late next r
  met {x} s f = record {
    refuses = λ y. (
      λ e. let z : x ≡ y = same_number (sym s ∙ e) in rw z at f,
      λ g. s ∙ ap refused (first_one (ls ++ late ∷ []) f g),
    );
    keeps = p.refuses;
    accepts = λ g. absurd (first_none (ls ++ late ∷ []) x f g);
  }

  any_marks : AnyMarks d call late next r
  unfolding First NoneMet
  any_marks = go (listed_tested d.numbers.n d.numbers.k call)
    where
      behind : NoneMet ls → (s : Bool) → t ≡ s → done_says r.answer ≡ or_refused s late.number → AnyMarks d call late next r
      behind g false q e = met e (first_behind ls (late ∷ []) late.number g (inl (no q, refl)))
      behind g true q e =
          let f : NoneMet (ls ++ late ∷ []) = none_both ls (late ∷ []) g (yes q, tt) in
          record {
            refuses = λ y. (λ z. absurd (gave_accepted e y (inl z)), λ z. absurd (first_none (ls ++ late ∷ []) y z f));
            keeps = p.refuses;
            accepts = λ _. (e, p.stores e);
          }

      go : Tested ls (refusal_of d.numbers.n d.numbers.k call) → AnyMarks d call late next r
      go (hit g f) = met (said_is (p.computes ∙ unless_not _ [] _ f)) (first_front ls (late ∷ []) _ g)
      go (clear g z) = behind g t refl (said_is (p.computes ∙ unless_zero _ [] _ z))

pub any_mark : AnyMarkHolds
any_mark d name r p = any_marks (room_for (marks_of d) name) (fifth_name (marks_of d) name) p (no_room (marks_of d) name) (some_room (marks_of d) name)

pub any_back : AnyBackHolds
any_back d name r p =
    let o : Option ℕ = mark_at (marks_of d) name in
    any_marks (is_mark o) (no_such_mark (marks_of d) name) p (no_mark o) (a_mark o)
